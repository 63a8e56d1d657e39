-- What a call takes from a statement, in one pass over its bytes.
use Rattle.laws.specs.{ℕ, List}
use Rattle.holding_look.specs.{looked_up, units_of}
use Rattle.statement.specs.{read_of}
use Rattle.statement_places.specs.{head_at, start_of, end_of}
use Rattle.statement_pass.specs.declared.Passed.{Passed}

-- whether the statement carries a holding, the area of a number in the holding that is read, the places of the bytes behind the first line and of the
-- area's lines, and the units of all areas
unfoldable pub passed_over : List ℕ → ℕ → Passed
passed_over s number =
    let read = read_of s in
    let looked = looked_up read.holding number in
    record {
      verdict = read.verdict;
      looked = looked;
      body = (head_at s).next;
      from = start_of s looked.found;
      to = end_of s looked.found;
      units = units_of read.holding;
    }
