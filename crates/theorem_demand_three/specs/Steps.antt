-- The steps of demand 3: "Its steps are A, S, C, P, R and W entries and read-backs". `own` is the participant's table: "One participant's table,
-- or none, is lent unchanged throughout."
use Rattle.std.specs.Prelude.{◌∷◌, Ok, Err, None}
use Rattle.laws.specs.{ℕ, Bool, List, [], length, take}
use Rattle.refusals.specs.{Verdict, Written, written, buffer_after}
use Rattle.line_entry.specs.{AreaAct}
use Rattle.holding.specs.{Holding, empty_area, empty_holding}
use Rattle.step_outcome.specs.{Outcome, accepted, turned_back, placed, Report}
use Rattle.step.specs.{stepped}
use Rattle.statement_format.specs.{statement_of}
use Rattle.statement_write.specs.{writable}
use Rattle.statement.specs.{Read, read_if, read_of}
use Rattle.theorem_accounts.specs.{is_accepted}

pub data Step : Type 0 where
  Enter : AreaAct → Step
  -- the output that is lent for the statement, of any length and content
  ReadBack : List ℕ → Step

-- what a step answers, and the holding that it leaves
pub record Result : Type 0 where
  pub outcome : Outcome
  pub holding : Holding

-- "the holding is written as a statement": the answer of the write, and what the output then holds
abbrev pub write_answer : Holding → List ℕ → Written
write_answer holding out = written (writable (statement_of holding) (length out)) (statement_of holding)

abbrev pub output_after : Holding → List ℕ → List ℕ
output_after holding out = buffer_after (writable (statement_of holding) (length out)) (statement_of holding) out

-- "and, unless that is refused, those bytes are read at once, unchanged": what the reader makes of them, or the write's refusal
abbrev pub read_after : Written → List ℕ → Read
read_after (Ok n) output = read_of (take n output)
read_after (Err refusal) output = read_if (Err refusal) empty_holding

-- "as the next holding"; a read-back reports nothing, and "A refused step counts as not sent."
abbrev pub read_result : Holding → Verdict → Holding → Result
read_result before (Ok _) read = record { outcome = accepted Report.Nothing None read.count empty_area; holding = read }
read_result before (Err refusal) read = record { outcome = turned_back refusal; holding = before }

unfoldable pub result_of : List ℕ → Holding → Step → Result
result_of own holding (Step.Enter on) = let outcome = stepped own holding on in record { outcome = outcome; holding = placed holding outcome }
result_of own holding (Step.ReadBack out) =
    let read = read_after (write_answer holding out) (output_after holding out) in read_result holding read.verdict read.holding

-- "Each step gets the holding that the last one left"
unfoldable pub holding_from : List ℕ → Holding → List Step → Holding
holding_from own holding [] = holding
holding_from own holding (s ∷ steps) = holding_from own (result_of own holding s).holding steps

-- what each step answered, the first first
unfoldable pub outcomes_from : List ℕ → Holding → List Step → List Outcome
outcomes_from own holding [] = []
outcomes_from own holding (s ∷ steps) = (result_of own holding s).outcome ∷ outcomes_from own (result_of own holding s).holding steps

-- "The ledger .. is fed each step and whether it was accepted .. a refused step or a read-back changes nothing in it": it is fed the entries
unfoldable pub fed : List Step → List Outcome → List (AreaAct × Bool)
fed [] outcomes = []
fed (s ∷ steps) [] = []
fed (Step.Enter on ∷ steps) (o ∷ outcomes) = (on, is_accepted o.verdict) ∷ fed steps outcomes
fed (Step.ReadBack out ∷ steps) (o ∷ outcomes) = fed steps outcomes
