-- An act on an area, by a statement and the numbers of a table: the smallest of what refuses the table, the statement and the step, and the statement
-- after it with its report.
use Rattle.laws.specs.{ℕ, List}
use Rattle.refusals.specs.{Verdict, smaller}
use Rattle.schedules.specs.{schedule6}
use Rattle.table.specs.{judged}
use Rattle.line_entry.specs.{AreaAct}
use Rattle.step_outcome.specs.{Outcome}
use Rattle.step.specs.{applied}
use Rattle.statement.specs.{read_of}
use Rattle.call_output.specs.{state_bytes}

unfoldable pub step_outcome : List ℕ → List ℕ → AreaAct → Outcome
step_outcome own statement on = applied own schedule6 (read_of statement).holding on

unfoldable pub step_verdict : List ℕ → List ℕ → AreaAct → Verdict
step_verdict own statement on = smaller (judged own) (smaller (read_of statement).verdict (step_outcome own statement on).verdict)

unfoldable pub step_bytes : List ℕ → List ℕ → AreaAct → List ℕ
step_bytes own statement on = state_bytes (read_of statement).holding (step_outcome own statement on)
