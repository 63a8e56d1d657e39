-- Demand 3, whole: "Take every list of these steps from an empty holding, refused ones included: opening, sub-area, clearing, planting, return and
-- withdrawal entries, and the holding written as a statement and read back."
use Rattle.std.specs.Prelude.{◌≡◌}
use Rattle.laws.specs.{ℕ, Bool, List, length}
use Rattle.std.proofs.Math.Option.{Option}
use Rattle.line_entry.specs.{AreaAct}
use Rattle.holding.specs.{Holding, empty_holding}
use Rattle.step_outcome.specs.{Outcome}
use Rattle.theorem_ledger.specs.{Row, row_number, ledger_of}
use Rattle.theorem_accounts.specs.{Reported, nothing_reported, reported_from, under, Agrees}
use Rattle.statement_format.specs.{statement_of}
use Rattle.statement_write.specs.{writable}
use Rattle.theorem_demand_three.specs.Steps.{Step, result_of, holding_from, outcomes_from, fed}
use Rattle.theorem_demand_three.specs.Shown.{Shows}

-- what the engine holds after a list of steps, and what it answered
abbrev pub holding_after : List ℕ → List Step → Holding
holding_after own steps = holding_from own empty_holding steps

abbrev pub outcomes_of : List ℕ → List Step → List Outcome
outcomes_of own steps = outcomes_from own empty_holding steps

-- what was reported for the area n
abbrev pub reported_for : List ℕ → List Step → ℕ → Reported
reported_for own steps n = reported_from n nothing_reported (outcomes_of own steps)

-- what the ledger is fed, its rows then, and the row for the area n, if there is one
abbrev pub fed_by : List ℕ → List Step → List (AreaAct × Bool)
fed_by own steps = fed steps (outcomes_of own steps)

abbrev pub ledger_after : List ℕ → List Step → List Row
ledger_after own steps = ledger_of own (fed_by own steps)

abbrev pub row_for : List ℕ → List Step → ℕ → Option Row
row_for own steps n = under row_number n (ledger_after own steps)

-- for a participant's table, a list of steps and an area's number
pub record DemandThree (own : List ℕ) (steps : List Step) (n : ℕ) : Type 0 where
  -- where the ledger has a row, the area is `Accounted` against it: each change, their sum, the balance, what was received and surrendered, and
  -- the count of returns; where it has none, nothing was reported and no area stands
  pub accounts : Agrees own n (holding_after own steps) (fed_by own steps) (reported_for own steps n) (row_for own steps n)
  -- "A statement written after the list shows these two totals, the number of returns and the closing stock."
  pub statement : Shows (statement_of (holding_after own steps)) n (reported_for own steps n) (row_for own steps n)
  -- "A holding reached by entries, written as a statement, reads back the same": a read-back is refused only where the output is shorter than
  -- needed (8), and it leaves the holding as it is
  pub read_back_verdict : (out : List ℕ)
      → (result_of own (holding_after own steps) (Step.ReadBack out)).outcome.verdict ≡ writable (statement_of (holding_after own steps)) (length out)
  pub read_back_same : (out : List ℕ) → (result_of own (holding_after own steps) (Step.ReadBack out)).holding ≡ holding_after own steps
