-- A column of given cells, by a statement and the numbers of a table.
use Rattle.laws.specs.{ℕ, List, leb}
use Rattle.refusals.specs.{Refusal, Verdict, smaller, weighed}
use Rattle.table.specs.{longest_table}
use Rattle.table_extend.specs.{begun, extensible}
use Rattle.statement.specs.{read_of}

-- the smaller of what refuses the statement and what refuses the column
unfoldable pub cells_verdict : List ℕ → List ℕ → ℕ → List ℕ → Verdict
cells_verdict own statement column cells =
    smaller (read_of statement).verdict
    (weighed (extensible (begun own) column cells longest_table) (leb 1 (read_of statement).holding.count) Refusal.TableAfterArea)
