-- "Export the accepted S entries of a book to that format, hectares as entered, each field quoted, rows ended by CR LF."
use Rattle.std.specs.Prelude.{◌∷◌, ◌++◌, Ok, Err}
use Rattle.laws.specs.{ℕ, Bool, true, false, cond, List, [], ltb, length}
use Rattle.refusals.specs.{Refusal, Verdict, ◌⇒◌, smallest}
use Rattle.line_entry.specs.{Act, Entry, Parsed}
use Rattle.line.specs.{entry_of}
use Rattle.book_listing.specs.{line_taken, if_accepted, Run, start, next, longest_book, lines_run}
use Rattle.sheet_read.specs.{Row}
use Rattle.sheet_judge.specs.{heading_row}
use Rattle.sheet_write.specs.{sheet_text, row_of}

-- whether an act adds a sub-area
abbrev pub adds : Act → Bool
adds (Act.Open opening) = false
adds (Act.Add sub land forest year) = true
adds (Act.Clear sub year) = false
adds (Act.Plant sub forest year) = false
adds (Act.File last) = false
adds Act.Withdraw = false

-- whether a line is read as an S entry
abbrev pub is_addition : Parsed → Bool
is_addition (Ok (Entry.On on)) = adds on.act
is_addition (Ok (Entry.Column column)) = false
is_addition (Err refusal) = false

-- whether a line is an accepted S entry, by its verdict and as it was read
abbrev pub is_exported : Verdict → Parsed → Bool
is_exported verdict parsed = if_accepted verdict (is_addition parsed) false

-- its row, where it is one
abbrev pub exported_for : Verdict → Parsed → List ℕ → List Row
exported_for verdict parsed line = cond (is_exported verdict parsed) (row_of line ∷ []) []

unfoldable pub exported_row : Run → List ℕ → List Row
exported_row run line = exported_for (line_taken run.own run.holding line).verdict (entry_of line) line

-- the rows of lines, in their order
unfoldable pub exported_from : Run → List (List ℕ) → List Row
exported_from run [] = []
exported_from run (line ∷ lines) = exported_row run line ++ exported_from (next run line) lines

-- the heading, and the rows of a book
unfoldable pub export_rows : List ℕ → List Row
export_rows book = heading_row ∷ exported_from start (lines_run book)

unfoldable pub export_of : List ℕ → List ℕ
export_of book = sheet_text (export_rows book)

-- "A book over 65536 bytes handed to an export .. is refused under 1"
abbrev pub export_weighed : List ℕ → Verdict
export_weighed book = smallest (ltb longest_book (length book) ⇒ Refusal.Form ∷ [])
