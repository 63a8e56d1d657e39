-- A holding that a statement carries never meets refusal 11: that applies only to an area found whose fields no statement carries.
use Rattle.std.specs.Prelude.{Ok, Err}
use Rattle.laws.proofs.{ℕ, Bool, true, false, not, ◌&&◌, ◌||◌, ◌≡◌, refl, sym, ap, subst, List, [], ◌∷◌, arith, eqb, eq-eqb}
use Rattle.laws.specs.{every}
use Rattle.refusals.specs.{Refusal, number_of, Case, weighed, weigh_all, smallest, Verdict}
use Rattle.refusals.proofs.Smallest.{turned_stands}
use Rattle.schedules.specs.{schedule6}
use Rattle.table.specs.{is_table}
use Rattle.line_entry.specs.{Act, AreaAct}
use Rattle.holding.specs.{Holding, find_area}
use Rattle.holding_look.specs.{known, area_at, looked_up}
use Rattle.statement_carried.specs.{fields_carried}
use Rattle.step_outcome.specs.{Outcome, answered, uncarried, area_cases}
use Rattle.step_open.specs.{open_cases, opened}
use Rattle.step_add.specs.{add_cases, added}
use Rattle.step_clear.specs.{clear_cases, cleared}
use Rattle.step_plant.specs.{plant_cases, planted}
use Rattle.step_file.specs.{file_cases, filed}
use Rattle.step_withdraw.specs.{withdraw_cases, withdrawn}
use Rattle.step.specs.{acted, applied, stepped}
use Rattle.step.proofs.Entered.{step_is, step_turned}
use Rattle.theorem_keeping.specs.{Kept}
use Rattle.laws.proofs.Lists.{and_left, and_right, both}
use Rattle.laws.proofs.Elements.{clash}
use Rattle.theorem_keeping.proofs.Fields.{fields_carried_lem}
use Rattle.theorem_keeping.proofs.Areas.{AreasKept, kept-areas}
use Rattle.theorem_keeping.proofs.Changes.{area-found}
use Rattle.theorem_keeping.proofs.Answers.{refusal-weighed}

-- whether no case of a table that has the number applies
abbrev spared : ℕ → Case → Bool
spared n c = not (eqb (number_of c.refusal) n) || not c.applies

unfoldable silent : ℕ → List Case → Bool
silent n cs = every (spared n) cs

never_given : (r : Refusal) (cs : List Case) → silent (number_of r) cs ≡ true → smallest cs ≡ Err r → ⊥
unfolding silent every smallest weigh_all weighed
never_given r [] s e = let z : ◌≡◌ {A = ℕ} 0 1 = cc in omega arith
never_given r (c ∷ cs) s e = go c.applies refl e (never_given r cs (and_right first rest s))
  where
    first : Bool
    first = spared (number_of r) c

    rest : Bool
    rest = every (spared (number_of r)) cs

    go : (t : Bool) → c.applies ≡ t → weigh_all (weighed (Ok tt) t c.refusal) cs ≡ Err r → (weigh_all (Ok tt) cs ≡ Err r → ⊥) → ⊥
    go true a e later =
        let given : c.refusal ≡ r = cc (turned_stands c.refusal cs) in
        let same : eqb (number_of c.refusal) (number_of r) ≡ true = eq-eqb _ _ (ap number_of given) in
        let h : first ≡ true = and_left first rest s in
        clash (sym (simp (same, a) at h))
    go false a e later = later e

never_answered : (cs : List Case) (outcome : Outcome) → outcome.verdict ≡ Ok tt → silent (number_of Refusal.CarriedStatement) cs ≡ true
    → (answered (smallest cs) outcome).verdict ≡ Err Refusal.CarriedStatement → ⊥
never_answered cs outcome c s e = never_given Refusal.CarriedStatement cs s (refusal-weighed outcome (smallest cs) Refusal.CarriedStatement c e)

module _ (holding : Holding) (kept : AreasKept holding) where
  found-carried : (number : ℕ) → not (uncarried (find_area holding number) (area_at holding (find_area holding number))) ≡ true
  found-carried number = go (known (find_area holding number)) refl
    where
      go : (t : Bool) → known (find_area holding number) ≡ t → not (t && not (fields_carried (area_at holding (find_area holding number)))) ≡ true
      go true e =
          let k = area-found holding kept number e in
          ap (λ (b : Bool). not (not b)) (fields_carried_lem (area_at holding (find_area holding number)) k.subs.room k.fields)
      go false e = refl

  acted_never : (own : List ℕ) (area : ℕ) (act : Act)
      → (acted own schedule6 (looked_up holding area) act).verdict ≡ Err Refusal.CarriedStatement → ⊥
  unfolding opened open_cases added add_cases cleared clear_cases planted plant_cases filed file_cases withdrawn withdraw_cases area_cases silent every
  acted_never own area (Act.Open opening) e = never_answered _ _ refl (both _ true (found-carried area) refl) e
  acted_never own area (Act.Add sub land forest year) e = never_answered _ _ refl (both _ true (found-carried area) refl) e
  acted_never own area (Act.Clear sub year) e = never_answered _ _ refl (both _ true (found-carried area) refl) e
  acted_never own area (Act.Plant sub forest year) e = never_answered _ _ refl (both _ true (found-carried area) refl) e
  acted_never own area (Act.File last) e = never_answered _ _ refl (both _ true (found-carried area) refl) e
  acted_never own area Act.Withdraw e = never_answered _ _ refl (both _ true (found-carried area) refl) e

pub never_eleven : (own : List ℕ) (holding : Holding) (on : AreaAct) → Kept holding → (stepped own holding on).verdict ≡ Err Refusal.CarriedStatement → ⊥
unfolding applied
never_eleven own holding on kept = go (is_table own) refl
  where
    Never : Outcome → Type 0
    Never outcome = outcome.verdict ≡ Err Refusal.CarriedStatement → ⊥

    go : (t : Bool) → is_table own ≡ t → Never (stepped own holding on)
    go true table = subst Never (step_is own holding on table) (acted_never holding (kept-areas holding kept) own on.area on.act)
    go false table =
        step_turned own holding on Never table
        (λ r few e. let same : r ≡ Refusal.CarriedStatement = cc in let number = ap number_of same in omega (arith, number, few))
