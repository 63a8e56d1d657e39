-- A sheet imported by a recorder's own program, onto the holding that a statement carries: "An operation that takes bytes judges its table (6) and its
-- statement (11 ..) before its own numbers".
use Rattle.laws.specs.{ℕ, List, length, ℤ}
use Rattle.refusals.specs.{Verdict, and_then, smaller, buffer_after}
use Rattle.table.specs.{judged}
use Rattle.table_bytes.specs.{numbers_of}
use Rattle.statement.specs.{read_of}
use Rattle.call_output.specs.{with_room}
use Rattle.call_answer.specs.{table_verdict, answer_of}
use Rattle.sheet_import.specs.{import_onto, onto_bytes}

-- what refuses the table or the statement, and then what refuses the sheet: by the verdict on a table, and its numbers
unfoldable pub weighed_under : Verdict → (own statement sheet : List ℕ) → Verdict
weighed_under table own statement sheet =
    let read = read_of statement in and_then (smaller table read.verdict) (import_onto own read.holding sheet).verdict

-- under the numbers of a table
abbrev pub under_verdict : (own statement sheet : List ℕ) → Verdict
under_verdict own = weighed_under (judged own) own

-- under a table's bytes
abbrev pub import_verdict : (statement table sheet : List ℕ) → Verdict
import_verdict statement table sheet = weighed_under (table_verdict table) (numbers_of table) statement sheet

-- the new statement
unfoldable pub import_bytes : List ℕ → List ℕ → List ℕ → List ℕ
import_bytes statement table sheet = onto_bytes (numbers_of table) statement sheet

-- "8 only where no other applies, in every new operation too"
unfoldable pub import_weighed : List ℕ → List ℕ → List ℕ → ℕ → Verdict
import_weighed statement table sheet room = with_room (import_verdict statement table sheet) (import_bytes statement table sheet) room

-- "The call returns the bytes written, or a refusal's number with a minus sign."
unfoldable pub import_answer : List ℕ → List ℕ → List ℕ → ℕ → ℤ
import_answer statement table sheet room = answer_of (import_weighed statement table sheet room) (import_bytes statement table sheet)

-- the output after the call
unfoldable pub import_output : List ℕ → List ℕ → List ℕ → List ℕ → List ℕ
import_output statement table sheet out = buffer_after (import_weighed statement table sheet (length out)) (import_bytes statement table sheet) out
