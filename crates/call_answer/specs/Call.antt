-- "The field unit's own program, written in C, calls the engine with a statement, a table, a line and an output buffer."
use Rattle.std.specs.Prelude.{Ok, Err}
use Rattle.laws.specs.{ℕ, not, List, [], length, ℤ, pos, neg_ℤ}
use Rattle.refusals.specs.{Verdict, number_of, weighed, smaller, buffer_after, Refusal}
use Rattle.table.specs.{is_table, longest_table}
use Rattle.table_bytes.specs.{numbers_of, decodable}
use Rattle.line_entry.specs.{Entry, Parsed}
use Rattle.line.specs.{entry_of}
use Rattle.holding.specs.{Holding}
use Rattle.schedules.specs.{schedule6}
use Rattle.step.specs.{applied}
use Rattle.statement.specs.{read_of}
use Rattle.table_grow.specs.{longer_by}
use Rattle.call_output.specs.{table_bytes, state_bytes, with_room}
use Rattle.book_listing.specs.{line_taken}

-- what refuses the line itself
abbrev pub line_verdict : Parsed → Verdict
line_verdict (Ok entry) = (Ok tt)
line_verdict (Err refusal) = Err refusal

-- "6 table column, length .., order, cell or odd byte"
unfoldable pub table_verdict : List ℕ → Verdict
table_verdict table = weighed (decodable table longest_table) (not (is_table (numbers_of table))) Refusal.TableColumn

-- "The smallest number that applies is given, otherwise none": of the line, the table, the statement and the state
unfoldable pub call_verdict : List ℕ → List ℕ → List ℕ → Verdict
call_verdict statement table line =
    let read = read_of statement in
    smaller (line_verdict (entry_of line))
    (smaller (table_verdict table)
    (smaller read.verdict
    (line_taken (numbers_of table) read.holding line).verdict))

-- "The output takes the new statement, then what `book` prints for an accepted R or W; for T it takes the longer table instead"
unfoldable pub entry_bytes : List ℕ → Holding → List ℕ → Entry → List ℕ
entry_bytes own holding line (Entry.Column column) = table_bytes (longer_by own line)
entry_bytes own holding line (Entry.On on) = state_bytes holding (applied own schedule6 holding on)

abbrev pub parsed_bytes : List ℕ → Holding → List ℕ → Parsed → List ℕ
parsed_bytes own holding line (Ok entry) = entry_bytes own holding line entry
parsed_bytes own holding line (Err refusal) = []

unfoldable pub call_bytes : List ℕ → List ℕ → List ℕ → List ℕ
call_bytes statement table line = parsed_bytes (numbers_of table) (read_of statement).holding line (entry_of line)

-- "8 only where no other applies"
unfoldable pub call_weighed : List ℕ → List ℕ → List ℕ → ℕ → Verdict
call_weighed statement table line room = with_room (call_verdict statement table line) (call_bytes statement table line) room

-- "The call returns the bytes written, or a refusal's number with a minus sign."
abbrev pub answer_of : Verdict → List ℕ → ℤ
answer_of (Ok _) bytes = pos (length bytes)
answer_of (Err refusal) bytes = neg_ℤ (pos (number_of refusal))

unfoldable pub call_answer : List ℕ → List ℕ → List ℕ → ℕ → ℤ
call_answer statement table line room = answer_of (call_weighed statement table line room) (call_bytes statement table line)

-- the output after the call
unfoldable pub call_output : List ℕ → List ℕ → List ℕ → List ℕ → List ℕ
call_output statement table line out = buffer_after (call_weighed statement table line (length out)) (call_bytes statement table line) out
