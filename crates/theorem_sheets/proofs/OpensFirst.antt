-- A and S entries that are all accepted in turn may be run with the A entries first. An accepted addition changes an area that stands, and an opening
-- behind it puts its own behind all that stand: neither sees the other, so that the two may change places, and an addition moves behind all openings.
use Rattle.std.specs.Prelude.{Some}
use Rattle.laws.proofs.{ℕ, ◌+◌, ◌<◌, true, ◌≡◌, refl, sym, ap, subst, ◌∙◌, List, [], ◌∷◌, map, arith, leb-false, length, get_or, set}
use Rattle.laws.specs.{keep}
use Rattle.laws.proofs.Standing.{stood_more, stood_same}
use Rattle.holding.proofs.Stands.{found-same, found_before}
use lib.Seq.{get_or-set_other, set_comm}
use Rattle.refusals.specs.{smallest}
use Rattle.refusals.proofs.Laws.{ruled_out}
use Rattle.units.specs.{Tenths}
use Rattle.forest.specs.{Forest}
use Rattle.schedules.specs.{schedule6}
use Rattle.table.specs.{is_table}
use Rattle.line_entry.specs.{Act, AreaAct, on}
use Rattle.holding.specs.{Sub, Area, Holding, most_areas, areas_of, empty_area, opened_area, find_area}
use Rattle.step_open.specs.{open_cases}
use Rattle.step_add.specs.{new_sub, add_cases, added_area}
use Rattle.step.specs.{holding_from}
use Rattle.theorem_keeping.specs.{Kept}
use Rattle.theorem_keeping.proofs.Areas.{area_number, AreasKept, kept-areas}
use Rattle.theorem_keeping.proofs.Keeping.{step_keeps}
use Rattle.theorem_keeping.proofs.Register.{found_inside}
use Rattle.theorem_sheets.specs.{opens_area, adds_sub, opens_or_adds}
use Rattle.theorem_sheets.proofs.Taken.{Accepts, after_act, Taken}
use Rattle.theorem_sheets.proofs.Changes.{OpensOn, AddsOn, with_opened, with_added, opens_like, opening-read, opening_made, adding_read, adding_made}

module _ (own : List ℕ) (holding : Holding) (kept : AreasKept holding) (n : ℕ) (sub : Sub) (k : AddsOn holding n sub) (m opening : ℕ)
    (o : OpensOn (with_added own holding k.place sub) m opening) where
  abbrev i : ℕ
  i = k.place

  abbrev area : Area
  area = get_or holding.areas i empty_area

  inside : i < holding.count
  unfolding find_area
  inside = (found_inside area_number n i holding.count holding.areas k.found).0

  apart : i ≡ holding.count → ⊥
  apart e = omega (arith, inside)

  room : holding.count < length holding.areas
  unfolding open_cases
  room = omega (arith, leb-false most_areas holding.count (ruled_out _ o.clear 4), kept.tidy.long)

  -- the opening finds no more before the addition
  numbers-same : map area_number (areas_of holding) ≡ map area_number (areas_of (with_added own holding i sub))
  unfolding added_area
  numbers-same = sym (stood_same holding.count holding.areas area_number i (added_area own schedule6 area sub) empty_area refl)

  pub opens_before : OpensOn holding m opening
  unfolding find_area
  opens_before = opens_like refl (found-same area_number m 0 (areas_of holding) (areas_of (with_added own holding i sub)) numbers-same) o

  -- the addition finds the same behind the opening
  same_area : get_or (with_opened holding m opening).areas i empty_area ≡ area
  same_area = get_or-set_other holding.areas holding.count i (opened_area m opening) empty_area apart

  pub adds-behind : AddsOn (with_opened holding m opening) n sub
  unfolding find_area
  adds-behind = record {
    place = i;
    found = rw (stood_more holding.count holding.areas (opened_area m opening) room)
        (found_before area_number n 0 i (areas_of holding) (opened_area m opening ∷ []) k.found);
    clear = ap (λ (a : Area). smallest (add_cases n sub (Some i) a)) same_area ∙ k.clear;
  }

  pub both_same : with_added own (with_opened holding m opening) adds-behind.place sub ≡ with_opened (with_added own holding i sub) m opening
  unfolding adds-behind
  both_same =
      ap (λ (l : List Area). record { count = holding.count + 1; areas = l })
      (ap (λ (a : Area). set (set holding.areas holding.count (opened_area m opening)) i (added_area own schedule6 a sub)) same_area
      ∙ sym (set_comm holding.areas i holding.count (added_area own schedule6 area sub) (opened_area m opening) apart))

-- ---- an addition behind the openings of acts

-- openings are taken before an addition as behind it, and it is taken behind them, with the same holding
pub record Behind (own : List ℕ) (holding : Holding) (adding : AreaAct) (openings : List AreaAct) : Type 0 where
  pub opened : Taken own holding openings
  pub added : Accepts own (holding_from own holding openings) adding
  pub same : after_act own (holding_from own holding openings) adding ≡ holding_from own (after_act own holding adding) openings

-- acts of both kinds, the openings first
pub record OpensFirst (own : List ℕ) (holding : Holding) (openings additions all : List AreaAct) : Type 0 where
  pub opened : Taken own holding openings
  pub added : Taken own (holding_from own holding openings) additions
  pub same : holding_from own (holding_from own holding openings) additions ≡ holding_from own holding all

module _ (own : List ℕ) (table : is_table own ≡ true) where
  module _ (n number : ℕ) (land : Tenths) (forest : Forest) (year : ℕ) where
    abbrev adding : AreaAct
    adding = on n (Act.Add number land forest year)

    abbrev GoesBehind : List AreaAct → Type 0
    GoesBehind acts = (holding : Holding) → Kept holding → Accepts own holding adding
        → Taken own (after_act own holding adding) (keep opens_area acts) → Behind own holding adding (keep opens_area acts)

    -- an opening and the addition change places
    module _ (holding : Holding) (kept : Kept holding) (e : Accepts own holding adding) (m opening : ℕ) where
      abbrev opener : AreaAct
      opener = on m (Act.Open opening)

      pub swapped : Accepts own (after_act own holding adding) opener
          → Accepts own holding opener × Accepts own (after_act own holding opener) adding
          × (after_act own (after_act own holding opener) adding ≡ after_act own (after_act own holding adding) opener)
      swapped f =
          let sub = new_sub number land forest year in
          let areas = kept-areas holding kept in
          let k = adding_read own table holding n number land forest year e in
          let added = (adding_made own table holding n number land forest year k).1 in
          let o = opening-read own table (with_added own holding k.place sub) m opening
          (subst (λ (h : Holding). Accepts own h opener) added f) in
          let before = opening_made own table holding m opening (opens_before own holding areas n sub k m opening o) in
          let behind = adding_made own table (with_opened holding m opening) n number land forest year (adds-behind own holding areas n sub k m opening o) in
          let late = (opening_made own table (with_added own holding k.place sub) m opening o).1 in (
            before.0,
            subst (λ (h : Holding). Accepts own h adding) (sym before.1) behind.0,
            ap (λ (h : Holding). after_act own h adding) before.1 ∙ behind.1 ∙ both_same own holding areas n sub k m opening o
                ∙ sym (ap (λ (h : Holding). after_act own h opener) added ∙ late),
          )

    act_behind : (acts : List AreaAct) → GoesBehind acts → (m : ℕ) (act : Act) → GoesBehind (on m act ∷ acts)
    unfolding Taken keep holding_from
    act_behind acts rest m (Act.Open opening) holding kept e t =
        let opener = on m (Act.Open opening) in
        let s = swapped holding kept e m opening t.0 in
        let behind = rest (after_act own holding opener) (step_keeps own holding opener kept) s.1
        (subst (λ (h : Holding). Taken own h (keep opens_area acts)) (sym s.2) t.1) in
        record {
          opened = (s.0, behind.opened);
          added = behind.added;
          same = behind.same ∙ ap (λ (h : Holding). holding_from own h (keep opens_area acts)) s.2;
        }
    act_behind acts rest m (Act.Add sub land forest year) holding kept e t = rest holding kept e t
    act_behind acts rest m (Act.Clear sub year) holding kept e t = rest holding kept e t
    act_behind acts rest m (Act.Plant sub forest year) holding kept e t = rest holding kept e t
    act_behind acts rest m (Act.File last) holding kept e t = rest holding kept e t
    act_behind acts rest m Act.Withdraw holding kept e t = rest holding kept e t

    goes_behind : (acts : List AreaAct) → GoesBehind acts
    unfolding Taken keep holding_from
    goes_behind [] = λ holding kept e t. record { opened = tt; added = e; same = refl }
    goes_behind (first ∷ acts) = act_behind acts (goes_behind acts) first.area first.act

  -- ---- all openings first

  abbrev Sorts : List AreaAct → Type 0
  Sorts acts = (holding : Holding) → Kept holding → Taken own holding (keep opens_or_adds acts)
      → OpensFirst own holding (keep opens_area acts) (keep adds_sub acts) (keep opens_or_adds acts)

  act_sorts : (acts : List AreaAct) → Sorts acts → (n : ℕ) (act : Act) → Sorts (on n act ∷ acts)
  unfolding Taken keep holding_from
  act_sorts acts rest n (Act.Open opening) holding kept t =
      let first = rest _ (step_keeps own holding (on n (Act.Open opening)) kept) t.1 in
      record { opened = (t.0, first.opened); added = first.added; same = first.same }
  act_sorts acts rest n (Act.Add number land forest year) holding kept t =
      let first = rest _ (step_keeps own holding (on n (Act.Add number land forest year)) kept) t.1 in
      let behind = goes_behind n number land forest year acts holding kept t.0 first.opened in
      record {
        opened = behind.opened;
        added = (behind.added, subst (λ (h : Holding). Taken own h (keep adds_sub acts)) (sym behind.same) first.added);
        same = ap (λ (h : Holding). holding_from own h (keep adds_sub acts)) behind.same ∙ first.same;
      }
  act_sorts acts rest n (Act.Clear sub year) holding kept t = rest holding kept t
  act_sorts acts rest n (Act.Plant sub forest year) holding kept t = rest holding kept t
  act_sorts acts rest n (Act.File last) holding kept t = rest holding kept t
  act_sorts acts rest n Act.Withdraw holding kept t = rest holding kept t

  pub opens-first : (acts : List AreaAct) → Sorts acts
  unfolding Taken keep holding_from
  opens-first [] = λ holding kept t. record { opened = tt; added = tt; same = refl }
  opens-first (first ∷ acts) = act_sorts acts (opens-first acts) first.area first.act
