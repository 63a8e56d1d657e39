-- What a verdict makes of a step: its refusal alone, or the outcome that an accepted step has.
use Rattle.std.specs.Prelude.{Ok, Err, Some, None, Option}
use Rattle.laws.proofs.{ℕ, ◌≤◌, Bool, true, false, not, ◌≡◌, refl, sym, ap, List, length, set, length-set, set_out}
use Rattle.refusals.specs.{Refusal, Verdict}
use Rattle.holding.specs.{Area, Holding}
use Rattle.holding_look.specs.{known}
use Rattle.statement_carried.specs.{fields_carried}
use Rattle.step_outcome.specs.{Outcome, turned_back, answered, placed_at, placed, uncarried}

-- the verdict w that was reached is the definition's, v
module _ (v w : Verdict) (e : w ≡ v) where
  pub refused : (refusal : Refusal) (given outcome : Outcome) → given ≡ turned_back refusal → w ≡ Err refusal → given ≡ answered v outcome
  unfolding answered
  refused refusal given outcome g t = simp (g, sym e, t)

  pub taken : (given outcome : Outcome) → w ≡ Ok tt → given ≡ outcome → given ≡ answered v outcome
  unfolding answered
  taken given outcome t g = simp (g, sym e, t)

-- an answer has the verdict, and a clear one is the accepted outcome
pub answered-verdict : (v : Verdict) (outcome : Outcome) → outcome.verdict ≡ Ok tt → (answered v outcome).verdict ≡ v
unfolding answered
answered-verdict (Ok _) outcome e = e
answered-verdict (Err r) outcome e = refl

pub answered_clear : (v : Verdict) (outcome : Outcome) → (answered v outcome).verdict ≡ Ok tt → (v ≡ Ok tt) × (answered v outcome ≡ outcome)
unfolding answered
answered_clear (Ok _) outcome e = (refl, refl)
answered_clear (Err r) outcome e = (e, cc)

-- an area that is not refused has fields that a statement carries
pub fields-kept : (found : Option ℕ) (area : Area) → uncarried found area ≡ false → not (known found) ≡ false → fields_carried area ≡ true
fields-kept (Some i) area kept stands = go (fields_carried area) kept
  where
    go : (kept : Bool) → not kept ≡ false → kept ≡ true
    go true e = refl
    go false e = cc
fields-kept None area kept stands = cc

-- an area placed where the search found it; past the array nothing is stored
module _ (holding : Holding) (outcome : Outcome) where
  pub placed_here : (i : ℕ) → outcome.place ≡ Some i
      → record { count = outcome.count; areas = set holding.areas i outcome.area } ≡ placed holding outcome
  unfolding placed
  placed_here i e = rw e

  pub placed-out : (i : ℕ) → outcome.place ≡ Some i → length holding.areas ≤ i
      → record { count = outcome.count; areas = holding.areas } ≡ placed holding outcome
  unfolding placed
  placed-out i e h = rw e (ap (λ (l : List Area). record { count = outcome.count; areas = l }) (sym (set_out holding.areas i outcome.area h)))

  pub placed_nowhere : outcome.place ≡ None → holding ≡ placed holding outcome
  unfolding placed
  placed_nowhere e = rw e

-- a step leaves as many places for areas as there were
pub placed-long : (holding : Holding) (outcome : Outcome) → length (placed holding outcome).areas ≡ length holding.areas
unfolding placed
placed-long holding outcome = go outcome.place
  where
    go : (found : Option ℕ) → length (placed_at holding found outcome.count outcome.area).areas ≡ length holding.areas
    go (Some i) = length-set holding.areas i outcome.area
    go None = refl
