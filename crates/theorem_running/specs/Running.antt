-- Demand 3 for what runs: the accepted lines are steps of demand 3, under the one table that stands after them all.
use Rattle.std.specs.Prelude.{◌≡◌, ◌∷◌, Ok, Err}
use Rattle.laws.specs.{ℕ, Bool, true, List, [], map, every}
use Rattle.line_entry.specs.{AreaAct, Entry, Parsed}
use Rattle.step_outcome.specs.{Outcome}
use Rattle.statement_format.specs.{texts, statement_of}
use Rattle.book_print.specs.{report_text}
use Rattle.theorem_accounts.specs.{is_accepted}
use Rattle.theorem_demand_three.specs.{Step, holding_after, outcomes_of, DemandThree}

-- the act that a line is read as; T is none
abbrev pub acts_in : Parsed → List AreaAct
acts_in (Ok (Entry.On on)) = on ∷ []
acts_in (Ok (Entry.Column column)) = []
acts_in (Err refusal) = []

-- acts as steps of demand 3
abbrev pub enter_each : List AreaAct → List Step
enter_each acts = map (λ (on : AreaAct). Step.Enter on) acts

abbrev pub all_accepted : List Outcome → Bool
all_accepted outcomes = every (λ (outcome : Outcome). is_accepted outcome.verdict) outcomes

-- what the steps reported, as it is printed, one after the other
unfoldable pub reports_of : List Outcome → List ℕ
reports_of outcomes = texts (λ (outcome : Outcome). report_text outcome.report) outcomes

-- the acts that were accepted, under one table, with the statement that they left and what was reported of them; for an area's number
pub record RunAccounted (own : List ℕ) (sent : List AreaAct) (statement reports : List ℕ) (n : ℕ) : Type 0 where
  -- as steps of demand 3 they are accepted, leave that statement and report that
  pub accepted : all_accepted (outcomes_of own (enter_each sent)) ≡ true
  pub left : statement ≡ statement_of (holding_after own (enter_each sent))
  pub reported : reports ≡ reports_of (outcomes_of own (enter_each sent))
  -- and so they are accounted as the plain ledger has it
  pub demand : DemandThree own (enter_each sent) n
