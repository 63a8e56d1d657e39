-- What an S entry looks at in an area, besides what every kept area has. Where one holding's areas look as another's would, had none of them filed or been
-- withdrawn, both find the same areas, and an S entry that the other accepts the one accepts too.
use Rattle.std.specs.Prelude.{Ok, Some}
use Rattle.laws.proofs.{ℕ, ◌<◌, Bool, false, ◌≡◌, refl, sym, ap, ◌∙◌, List, [], ◌∷◌, ◌++◌, map, arith, leb-false, length, get_or, get_or-take, eqb-true, eqb, not-false}
use Rattle.laws.proofs.Standing.{stood_more}
use Rattle.holding.proofs.Stands.{found-same}
use mathlib.Core.List.{map-map, map-append}
use lib.ListN.{get_or-map}
use Rattle.refusals.specs.{smallest, Verdict}
use Rattle.refusals.proofs.Laws.{RuledOut, ruled_out}
use Rattle.schedules.specs.{schedule6}
use Rattle.holding.specs.{Sub, Area, Holding, most_subs, areas_of, subs_of, empty_area, find_area, find_sub}
use Rattle.step_outcome.specs.{area_cases}
use Rattle.step_add.specs.{add_cases, added_area}
use Rattle.theorem_keeping.proofs.Areas.{area_number, sub_number, AreaKept, AreasKept}
use Rattle.theorem_keeping.proofs.Fields.{fields_carried_lem}
use Rattle.theorem_sheets.proofs.Searches.{many_same}

pub record View : Type 0 where
  pub number : ℕ
  pub opening : ℕ
  pub returns : ℕ
  pub withdrawn : Bool
  pub subs : List ℕ

abbrev pub view_of : Area → View
view_of area = record {
  number = area.number;
  opening = area.opening;
  returns = area.returns;
  withdrawn = area.withdrawn;
  subs = map sub_number (subs_of area);
}

-- how it would look, had it neither filed nor been withdrawn
abbrev pub unfiled : Area → View
unfiled area = record { number = area.number; opening = area.opening; returns = 0; withdrawn = false; subs = map sub_number (subs_of area) }

-- ---- an area beside another

module _ (a b : Area) (e : view_of a ≡ unfiled b) where
  abbrev same-subs : map sub_number (subs_of a) ≡ map sub_number (subs_of b)
  same-subs = ap (λ (v : View). v.subs) e

  pub sub_alike : (n : ℕ) → find_sub a n ≡ find_sub b n
  unfolding find_sub
  sub_alike n = found-same sub_number n 0 (subs_of a) (subs_of b) same-subs

  module _ (kept_a : AreaKept a) (kept_b : AreaKept b) where
    pub count_alike : a.count ≡ b.count
    count_alike = many_same sub_number kept_a.subs.room kept_a.subs.tidy kept_b.subs.room kept_b.subs.tidy same-subs

    module _ (own : List ℕ) (n i : ℕ) (sub : Sub) (clear : smallest (add_cases n sub (Some i) b) ≡ Ok tt) where
      out : RuledOut (add_cases n sub (Some i) b)
      out = ruled_out (add_cases n sub (Some i) b) clear

      -- both are carried, and the other has neither filed nor been withdrawn
      cases_alike : add_cases n sub (Some i) a ≡ add_cases n sub (Some i) b
      unfolding add_cases area_cases
      cases_alike =
          let carried_a = fields_carried_lem a kept_a.subs.room kept_a.fields in
          let carried_b = fields_carried_lem b kept_b.subs.room kept_b.fields in
          let withdrawn : b.withdrawn ≡ false = out 5 in
          let filed : b.returns ≡ 0 = eqb-true b.returns 0 (not-false (eqb b.returns 0) (out 8)) in
          let none : a.withdrawn ≡ false = ap (λ (v : View). v.withdrawn) e in
          let nought : a.returns ≡ 0 = ap (λ (v : View). v.returns) e in
          let opening : a.opening ≡ b.opening = ap (λ (v : View). v.opening) e in
          let found = sub_alike sub.number in
          let count = count_alike in
          cc

      pub added_clear : smallest (add_cases n sub (Some i) a) ≡ Ok tt
      added_clear = ap smallest cases_alike ∙ clear

      -- one number more on both sides
      more : (c : Area) → AreaKept c → c.count ≡ b.count → map sub_number (subs_of (added_area own schedule6 c sub)) ≡ map sub_number (subs_of c) ++ (sub.number ∷ [])
      unfolding added_area add_cases area_cases
      more c kept same =
          let room = leb-false most_subs b.count (out 7) in
          let long : length c.subs ≡ most_subs = kept.subs.tidy.long in
          let inside : c.count < length c.subs = omega arith in
          ap (map sub_number) (stood_more c.count c.subs sub inside) ∙ map-append sub_number (subs_of c) (sub ∷ [])

      pub added_view : view_of (added_area own schedule6 a sub) ≡ unfiled (added_area own schedule6 b sub)
      unfolding added_area
      added_view =
          let subs = more a kept_a count_alike ∙ ap (λ (l : List ℕ). l ++ (sub.number ∷ [])) same-subs ∙ sym (more b kept_b refl) in
          let number = ap (λ (v : View). v.number) e in
          let opening = ap (λ (v : View). v.opening) e in
          let returns = ap (λ (v : View). v.returns) e in
          let withdrawn = ap (λ (v : View). v.withdrawn) e in
          cc

-- ---- a holding beside another

abbrev pub Alike : Holding → Holding → Type 0
Alike one other = map view_of (areas_of one) ≡ map unfiled (areas_of other)

module _ (one other : Holding) (alike : Alike one other) where
  numbers_alike : map area_number (areas_of one) ≡ map area_number (areas_of other)
  numbers_alike =
      sym (map-map (λ (v : View). v.number) view_of (areas_of one)) ∙ ap (map (λ (v : View). v.number)) alike
      ∙ map-map (λ (v : View). v.number) unfiled (areas_of other)

  pub find_alike : (n : ℕ) → find_area one n ≡ find_area other n
  unfolding find_area
  find_alike n = found-same area_number n 0 (areas_of one) (areas_of other) numbers_alike

  pub many_alike : AreasKept one → AreasKept other → one.count ≡ other.count
  many_alike k l = many_same area_number k.room k.tidy l.room l.tidy numbers_alike

  pub view_alike : (i : ℕ) → i < one.count → i < other.count → view_of (get_or one.areas i empty_area) ≡ unfiled (get_or other.areas i empty_area)
  view_alike i h k =
      ap view_of (sym (get_or-take one.count one.areas i empty_area h)) ∙ sym (get_or-map view_of (areas_of one) i empty_area)
      ∙ ap (λ (l : List View). get_or l i (view_of empty_area)) alike ∙ get_or-map unfiled (areas_of other) i empty_area
      ∙ ap unfiled (get_or-take other.count other.areas i empty_area k)
