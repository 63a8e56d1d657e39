-- What an accepted A entry says of a holding, and an accepted S entry; and the other way, that it is accepted where that holds, and what it leaves. An A entry
-- wants its number unknown and the count alone; an S entry looks at the one area that it finds.
use Rattle.std.specs.Prelude.{Ok, Some, None, Option}
use Rattle.laws.proofs.{ℕ, ◌+◌, true, ◌≡◌, refl, sym, ap, subst, ◌∙◌, List, get_or, set}
use Rattle.laws.proofs.Elements.{clash}
use Rattle.refusals.specs.{smallest, Verdict}
use Rattle.refusals.proofs.Laws.{ruled_out}
use Rattle.units.specs.{Tenths}
use Rattle.forest.specs.{Forest}
use Rattle.schedules.specs.{schedule6}
use Rattle.table.specs.{is_table}
use Rattle.line_entry.specs.{Act, AreaAct, on}
use Rattle.holding.specs.{Sub, Holding, empty_area, opened_area, find_area}
use Rattle.holding_look.specs.{Looked, area_at, looked_at, looked_up}
use Rattle.step_outcome.specs.{Report, Outcome, accepted, answered, area_cases, placed}
use Rattle.step_outcome.proofs.Laws.{answered_clear}
use Rattle.step_open.specs.{open_cases, opened}
use Rattle.step_add.specs.{new_sub, add_cases, added_area, added}
use Rattle.step.specs.{applied, stepped}
use Rattle.step.proofs.Entered.{step_is}
use Rattle.theorem_keeping.proofs.Register.{unknown}
use Rattle.theorem_sheets.proofs.Taken.{Accepts, after_act}

-- a number that was looked up and not found
abbrev pub nowhere : ℕ → ℕ → Looked
nowhere number count = record { number = number; count = count; found = None; area = empty_area }

pub record OpensOn (holding : Holding) (n opening : ℕ) : Type 0 where
  pub unknown : find_area holding n ≡ None
  pub clear : smallest (open_cases (nowhere n holding.count) opening) ≡ Ok tt

pub record AddsOn (holding : Holding) (n : ℕ) (sub : Sub) : Type 0 where
  pub place : ℕ
  pub found : find_area holding n ≡ Some place
  pub clear : smallest (add_cases n sub (Some place) (get_or holding.areas place empty_area)) ≡ Ok tt

abbrev pub with_opened : Holding → ℕ → ℕ → Holding
with_opened holding n opening = record { count = holding.count + 1; areas = set holding.areas holding.count (opened_area n opening) }

abbrev pub with_added : List ℕ → Holding → ℕ → Sub → Holding
with_added own holding i sub =
    record { count = holding.count; areas = set holding.areas i (added_area own schedule6 (get_or holding.areas i empty_area) sub) }

-- an act that is accepted, and the holding that it leaves
abbrev pub Leaves : List ℕ → Holding → AreaAct → Holding → Type 0
Leaves own holding on after = Accepts own holding on × (after_act own holding on ≡ after)

pub opens_like : {one other : Holding} {n opening : ℕ} → one.count ≡ other.count → find_area one n ≡ find_area other n → OpensOn other n opening → OpensOn one n opening
opens_like {one} {other} {n} {opening} c f k =
    record { unknown = f ∙ k.unknown; clear = ap (λ (count : ℕ). smallest (open_cases (nowhere n count) opening)) c ∙ k.clear }

module _ (own : List ℕ) (table : is_table own ≡ true) (holding : Holding) (n : ℕ) where
  module _ (opening : ℕ) where
    abbrev verdict_at : Option ℕ → Verdict
    verdict_at found = smallest (open_cases (looked_at holding n found) opening)

    step_opens : stepped own holding (on n (Act.Open opening)) ≡ opened (looked_up holding n) opening
    unfolding applied
    step_opens = sym (step_is own holding (on n (Act.Open opening)) table)

    pub opening-read : Accepts own holding (on n (Act.Open opening)) → OpensOn holding n opening
    unfolding opened open_cases area_at
    opening-read e =
        let clear : verdict_at (find_area holding n) ≡ Ok tt = (answered_clear _ _ (ap (λ (o : Outcome). o.verdict) (sym step_opens) ∙ e)).0 in
        let none : find_area holding n ≡ None = unknown (find_area holding n) (ruled_out (open_cases (looked_up holding n) opening) clear 3) in
        record { unknown = none; clear = subst (λ (found : Option ℕ). verdict_at found ≡ Ok tt) none clear }

    pub opening_made : OpensOn holding n opening → Leaves own holding (on n (Act.Open opening)) (with_opened holding n opening)
    unfolding opened answered placed area_at
    opening_made k =
        let outcome = accepted Report.Nothing (Some holding.count) (holding.count + 1) (opened_area n opening) in
        let same : stepped own holding (on n (Act.Open opening)) ≡ outcome =
        step_opens ∙ ap (λ (v : Verdict). answered v outcome) (ap verdict_at k.unknown ∙ k.clear) in
        (ap (λ (o : Outcome). o.verdict) same, ap (placed holding) same)

  module _ (number : ℕ) (land : Tenths) (forest : Forest) (year : ℕ) where
    abbrev sub : Sub
    sub = new_sub number land forest year

    abbrev adding : AreaAct
    adding = on n (Act.Add number land forest year)

    abbrev added_verdict : Option ℕ → Verdict
    added_verdict found = smallest (add_cases n sub found (area_at holding found))

    abbrev added_outcome : Option ℕ → Outcome
    added_outcome found = accepted Report.Nothing found holding.count (added_area own schedule6 (area_at holding found) sub)

    step_adds : stepped own holding adding ≡ added own schedule6 (looked_up holding n) sub
    unfolding applied
    step_adds = sym (step_is own holding adding table)

    pub adding_read : Accepts own holding adding → AddsOn holding n sub
    unfolding added add_cases area_cases area_at
    adding_read e = go (find_area holding n) refl (answered_clear _ _ (ap (λ (o : Outcome). o.verdict) (sym step_adds) ∙ e)).0
      where
        go : (found : Option ℕ) → find_area holding n ≡ found → added_verdict found ≡ Ok tt → AddsOn holding n sub
        go (Some i) e clear = record { place = i; found = e; clear = clear }
        go None e clear = clash (ruled_out (add_cases n sub None empty_area) clear 4)

    pub adding_made : (k : AddsOn holding n sub) → Leaves own holding adding (with_added own holding k.place sub)
    unfolding added answered placed area_at
    adding_made k =
        let outcome = added_outcome (Some k.place) in
        let same : stepped own holding adding ≡ outcome =
        step_adds ∙ ap (λ (found : Option ℕ). answered (added_verdict found) (added_outcome found)) k.found ∙ ap (λ (v : Verdict). answered v outcome) k.clear in
        (ap (λ (o : Outcome). o.verdict) same, ap (placed holding) same)
