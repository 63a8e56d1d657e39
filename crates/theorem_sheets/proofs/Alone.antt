-- Of acts that are all accepted, those that open an area or add a sub-area are accepted alone. The holding that they reach looks after every act as that of
-- the whole list would, had none of its areas filed or been withdrawn: an opening puts the same area behind both, an addition puts one number more into the
-- same area, and every other act leaves numbers, openings and the numbers of sub-areas.
use Rattle.std.specs.Prelude.{Some, None, Option}
use Rattle.laws.proofs.{ℕ, ◌+◌, ◌<◌, true, false, ◌≡◌, refl, sym, ap, subst, ◌∙◌, List, [], ◌∷◌, ◌++◌, map, arith, leb-false, length, take, get_or, set}
use Rattle.laws.specs.{keep}
use mathlib.Core.List.{map-append}
use lib.Seq.{take-set-lt}
use Rattle.laws.proofs.Standing.{map-set, stood_more, stood_same}
use Rattle.laws.proofs.Elements.{clash}
use Rattle.refusals.specs.{Verdict}
use Rattle.refusals.proofs.Laws.{ruled_out}
use Rattle.units.specs.{Tenths}
use Rattle.forest.specs.{Forest}
use Rattle.schedules.specs.{schedule6}
use Rattle.table.specs.{is_table}
use Rattle.line_entry.specs.{Act, AreaAct, on}
use Rattle.holding.specs.{Sub, Area, Holding, most_areas, areas_of, subs_of, empty_sub, empty_area, opened_area, find_area, find_sub}
use Rattle.holding_look.specs.{area_at, sub_at, subs_with, looked_up, with_sub}
use Rattle.step_outcome.specs.{Report, Outcome, accepted, answered, placed_at, placed}
use Rattle.step_open.specs.{open_cases}
use Rattle.step_add.specs.{new_sub, added_area}
use Rattle.step_clear.specs.{cleared_sub, cleared_area, cleared}
use Rattle.step_plant.specs.{planted_sub, planted_area, planted}
use Rattle.step_file.specs.{filed_area, filed}
use Rattle.step_withdraw.specs.{withdrawn_area, withdrawn}
use Rattle.step.specs.{acted, applied}
use Rattle.step.proofs.Entered.{step_is}
use Rattle.book_export.specs.{adds}
use Rattle.theorem_keeping.specs.{Kept}
use Rattle.theorem_keeping.proofs.Areas.{area_number, sub_number, AreasKept, kept-areas}
use Rattle.theorem_keeping.proofs.Answers.{answer_has}
use Rattle.theorem_keeping.proofs.Keeping.{step_keeps}
use Rattle.theorem_keeping.proofs.Register.{found_inside, register_at}
use Rattle.theorem_sheets.specs.{opens, opens_or_adds}
use Rattle.theorem_sheets.proofs.Taken.{Accepts, after_act, Taken}
use Rattle.theorem_sheets.proofs.Changes.{opens_like, opening-read, opening_made, adding_read, adding_made}
use Rattle.theorem_sheets.proofs.Views.{View, view_of, unfiled, Alike, find_alike, many_alike, view_alike, added_clear, added_view}

-- ---- what an act does to views

-- a sub-area put back under its number
numbers_stay : (area : Area) (found : Option ℕ) (sub : Sub) → sub.number ≡ (sub_at area found).number
    → map sub_number (take area.count (subs_with area.subs found sub)) ≡ map sub_number (subs_of area)
unfolding sub_at
numbers_stay area None sub e = refl
numbers_stay area (Some i) sub e = stood_same area.count area.subs sub_number i sub empty_sub e

module _ {B : Type 0} (view : Area → B) (holding : Holding) where
  -- an area put back as it looked
  stays : (found : Option ℕ) (area : Area) → view area ≡ view (area_at holding found)
      → map view (areas_of (placed_at holding found holding.count area)) ≡ map view (areas_of holding)
  unfolding area_at
  stays None area e = refl
  stays (Some i) area e = stood_same holding.count holding.areas view i area empty_area e

  put : (i : ℕ) (area : Area) → i < holding.count → map view (take holding.count (set holding.areas i area)) ≡ set (map view (areas_of holding)) i (view area)
  put i area h = ap (map view) (take-set-lt holding.count holding.areas i area h) ∙ map-set view (areas_of holding) i area

  behind : (area : Area) → holding.count < length holding.areas
      → map view (take (holding.count + 1) (set holding.areas holding.count area)) ≡ map view (areas_of holding) ++ (view area ∷ [])
  behind area h = ap (map view) (stood_more holding.count holding.areas area h) ∙ map-append view (areas_of holding) (area ∷ [])

module _ (own : List ℕ) (table : is_table own ≡ true) where
  -- ---- one act, on the holding of the acts kept and on that of the whole list

  module _ (alone whole : Holding) (alike : Alike alone whole) where
    -- neither opens nor adds
    changed_alike : (n : ℕ) (v : Verdict) (report : Report) (area : Area) → unfiled area ≡ unfiled (area_at whole (find_area whole n))
        → Alike alone (placed whole (answered v (accepted report (find_area whole n) whole.count area)))
    unfolding placed
    changed_alike n v report area e =
        answer_has whole (accepted report (find_area whole n) whole.count area) (Alike alone) v alike
        (λ clear. alike ∙ sym (stays unfiled whole (find_area whole n) area e))

    put_back : (n : ℕ) (sub : ℕ) (put : Sub) (year : ℕ) → (let area = area_at whole (find_area whole n) in put.number ≡ (sub_at area (find_sub area sub)).number
        → unfiled (with_sub area (find_sub area sub) put year) ≡ unfiled area)
    unfolding with_sub
    put_back n sub put year e =
        let area = area_at whole (find_area whole n) in
        ap (λ (l : List ℕ). record { number = area.number; opening = area.opening; returns = 0; withdrawn = false; subs = l })
        (numbers_stay area (find_sub area sub) put e)

    stepped_alike : (on : AreaAct) → Alike alone (placed whole (applied own schedule6 whole on)) → Alike alone (after_act own whole on)
    stepped_alike on a = subst (λ (o : Outcome). Alike alone (placed whole o)) (step_is own whole on table) a

    module _ (kept_alone : AreasKept alone) (kept_whole : AreasKept whole) (n : ℕ) where
      opened_alike : (opening : ℕ) → Accepts own whole (on n (Act.Open opening))
          → (Accepts own alone (on n (Act.Open opening)))
          × Alike (after_act own alone (on n (Act.Open opening))) (after_act own whole (on n (Act.Open opening)))
      unfolding open_cases
      opened_alike opening e =
          let k = opening-read own table whole n opening e in
          let count = many_alike alone whole alike kept_alone kept_whole in
          let made = opening_made own table alone n opening (opens_like count (find_alike alone whole alike n) k) in
          let room = leb-false most_areas whole.count (ruled_out _ k.clear 4) in
          let long_alone = kept_alone.tidy.long in
          let long_whole = kept_whole.tidy.long in (
            made.0,
            ap (λ (h : Holding). map view_of (areas_of h)) made.1 ∙ behind view_of alone (opened_area n opening) (omega arith)
                ∙ ap (λ (l : List View). l ++ (view_of (opened_area n opening) ∷ [])) alike ∙ sym (behind unfiled whole (opened_area n opening) (omega arith))
                ∙ sym (ap (λ (h : Holding). map unfiled (areas_of h)) (opening_made own table whole n opening k).1),
          )

      added_alike : (number : ℕ) (land : Tenths) (forest : Forest) (year : ℕ) → (let adding = on n (Act.Add number land forest year) in
          Accepts own whole adding
          → Accepts own alone adding × Alike (after_act own alone adding) (after_act own whole adding))
      unfolding find_area
      added_alike number land forest year e =
          let sub = new_sub number land forest year in
          let k = adding_read own table whole n number land forest year e in
          let i = k.place in
          let found : find_area alone n ≡ Some i = find_alike alone whole alike n ∙ k.found in
          let a = get_or alone.areas i empty_area in
          let b = get_or whole.areas i empty_area in
          let kept_a = register_at kept_alone n i empty_area found in
          let kept_b = register_at kept_whole n i empty_area k.found in
          let inside_alone = (found_inside area_number n i alone.count alone.areas found).0 in
          let inside_whole = (found_inside area_number n i whole.count whole.areas k.found).0 in
          let view = view_alike alone whole alike i inside_alone inside_whole in
          let made = adding_made own table alone n number land forest year (record { place = i; found = found; clear = added_clear a b view kept_a kept_b own n i sub k.clear }) in (
            made.0,
            ap (λ (h : Holding). map view_of (areas_of h)) made.1 ∙ put view_of alone i (added_area own schedule6 a sub) inside_alone
                ∙ ap (λ (l : List View). set l i (view_of (added_area own schedule6 a sub))) alike
                ∙ ap (set (map unfiled (areas_of whole)) i) (added_view a b view kept_a kept_b own n i sub k.clear)
                ∙ sym (put unfiled whole i (added_area own schedule6 b sub) inside_whole)
                ∙ sym (ap (λ (h : Holding). map unfiled (areas_of h)) (adding_made own table whole n number land forest year k).1),
          )

    -- an act that is neither, whatever its verdict
    neither_alike : (n : ℕ) (act : Act) → opens act ≡ false → adds act ≡ false → Alike alone (placed whole (acted own schedule6 (looked_up whole n) act))
    unfolding cleared cleared_sub cleared_area planted planted_sub planted_area filed filed_area withdrawn withdrawn_area sub_at
    neither_alike n (Act.Open opening) o a = clash o
    neither_alike n (Act.Add sub land forest year) o a = clash a
    neither_alike n (Act.Clear sub year) o a = changed_alike n _ _ _ (put_back n sub _ year refl)
    neither_alike n (Act.Plant sub forest year) o a = changed_alike n _ _ _ (put_back n sub _ year refl)
    neither_alike n (Act.File last) o a = changed_alike n _ _ _ refl
    neither_alike n Act.Withdraw o a = changed_alike n _ _ _ refl

  -- ---- all acts

  abbrev Alone : List AreaAct → Type 0
  Alone acts = (alone whole : Holding) → Kept alone → Kept whole → Alike alone whole → Taken own whole acts → Taken own alone (keep opens_or_adds acts)

  module _ (acts : List AreaAct) (rest : Alone acts) (alone whole : Holding) (k : Kept alone) (l : Kept whole) (alike : Alike alone whole) (n : ℕ) (act : Act)
      (t : Taken own (after_act own whole (on n act)) acts) where
    -- both holdings go on
    both_on : Accepts own alone (on n act) × Alike (after_act own alone (on n act)) (after_act own whole (on n act))
        → Accepts own alone (on n act) × Taken own (after_act own alone (on n act)) (keep opens_or_adds acts)
    both_on s = (s.0, rest _ _ (step_keeps own alone (on n act) k) (step_keeps own whole (on n act) l) s.1 t)

    -- the whole list goes on by itself
    whole-on : opens act ≡ false → adds act ≡ false → Taken own alone (keep opens_or_adds acts)
    unfolding applied
    whole-on o a = rest _ _ k (step_keeps own whole (on n act) l) (stepped_alike alone whole alike (on n act) (neither_alike alone whole alike n act o a)) t

  act_alone : (acts : List AreaAct) → Alone acts → (n : ℕ) (act : Act) → Alone (on n act ∷ acts)
  unfolding Taken keep
  act_alone acts rest n (Act.Open opening) alone whole k l alike t =
      both_on acts rest alone whole k l alike n _ t.1 (opened_alike alone whole alike (kept-areas alone k) (kept-areas whole l) n opening t.0)
  act_alone acts rest n (Act.Add number land forest year) alone whole k l alike t =
      both_on acts rest alone whole k l alike n _ t.1 (added_alike alone whole alike (kept-areas alone k) (kept-areas whole l) n number land forest year t.0)
  act_alone acts rest n (Act.Clear sub year) alone whole k l alike t = whole-on acts rest alone whole k l alike n _ t.1 refl refl
  act_alone acts rest n (Act.Plant sub forest year) alone whole k l alike t = whole-on acts rest alone whole k l alike n _ t.1 refl refl
  act_alone acts rest n (Act.File last) alone whole k l alike t = whole-on acts rest alone whole k l alike n _ t.1 refl refl
  act_alone acts rest n Act.Withdraw alone whole k l alike t = whole-on acts rest alone whole k l alike n _ t.1 refl refl

  pub acts_alone : (acts : List AreaAct) → Alone acts
  unfolding Taken keep
  acts_alone [] = λ alone whole k l alike t. tt
  acts_alone (first ∷ acts) = act_alone acts (acts_alone acts) first.area first.act
