-- What was reported for an area, read off the outcomes of a list of steps, the first first.
use Rattle.std.specs.Prelude.{◌+◌, ◌∷◌, ◌++◌, ◌+ℤ◌}
use Rattle.laws.specs.{ℕ, cond, List, [], foldl, eqb, ℤ, pos}
use Rattle.units.specs.{value}
use Rattle.step_outcome.specs.{Report, Outcome}
use Rattle.theorem_ledger.specs.{lesser}

-- "The tonnes a return reports are its change. Units received and units surrendered are the totals of what was reported for the area as
-- received and as due. Its balance is the last one reported for it, nought before any and after W."
pub record Reported : Type 0 where
  pub changes : List ℤ
  pub received : ℕ
  pub surrendered : ℕ
  pub balance : ℕ

abbrev pub nothing_reported : Reported
nothing_reported = record { changes = []; received = 0; surrendered = 0; balance = 0 }

-- what was reported for the area n, with one report more
unfoldable pub reported_with : ℕ → Reported → Report → Reported
reported_with n before Report.Nothing = before
reported_with n before (Report.Return filed) =
    cond (eqb filed.area n)
    (record {
      changes = before.changes ++ (value filed.change ∷ []);
      received = before.received + filed.received;
      surrendered = before.surrendered + filed.due;
      balance = filed.balance;
    })
    before
reported_with n before (Report.Withdrawal area due) =
    cond (eqb area n)
    (record { changes = before.changes; received = before.received; surrendered = before.surrendered + due; balance = 0 })
    before

unfoldable pub reported_from : ℕ → Reported → List Outcome → Reported
reported_from n before outcomes = foldl (λ (so_far : Reported) (outcome : Outcome). reported_with n so_far outcome.report) before outcomes

unfoldable pub total : List ℤ → ℤ
total changes = foldl ◌+ℤ◌ (pos 0) changes

-- the sum after each change, from a sum before the first
unfoldable pub sums_from : ℤ → List ℤ → List ℤ
sums_from sum [] = []
sums_from sum (x ∷ changes) = (sum +ℤ x) ∷ sums_from (sum +ℤ x) changes

abbrev pub running_sums : List ℤ → List ℤ
running_sums changes = sums_from (pos 0) changes

-- "the lowest value the running sum ever had, nought counted"
unfoldable pub lowest : List ℤ → ℤ
lowest changes = foldl lesser (pos 0) (running_sums changes)
