-- What a call writes at most: its holding is kept, so that the statement and the report are no longer than their fields' widths; a table is shorter.
-- With an output of that length a book run line by line through the call gives the listing of `book`.
use Rattle.std.specs.Prelude.{Ok, Err}
use Rattle.laws.proofs.{ℕ, ◌≤◌, ◌≡◌, ◌∙◌, true, not, List, [], arith, not-false, le-ltb, length, length-append}
use Rattle.refusals.specs.{Refusal, Verdict}
use Rattle.refusals.proofs.Laws.{clear_last}
use Rattle.table.specs.{longest_table, is_table}
use Rattle.table_bytes.specs.{numbers_of, decodable}
use Rattle.line_entry.specs.{Entry, Parsed}
use Rattle.line.specs.{entry_of}
use Rattle.schedules.specs.{schedule6}
use Rattle.holding.specs.{Holding}
use Rattle.step_outcome.specs.{placed}
use Rattle.step_outcome.proofs.Laws.{answered_clear}
use Rattle.step.specs.{applied}
use Rattle.statement_format.specs.{statement_of}
use Rattle.statement_carried.specs.{limits}
use Rattle.statement.specs.{read_of}
use Rattle.table_grow.specs.{growable, longer_by}
use Rattle.table_grow.proofs.Fits.{longer-fits}
use Rattle.book_print.specs.{report_text}
use Rattle.book_listing.specs.{entry_taken, parsed_taken, line_taken, printed_from, list_from, start, longest_book, listing_of, lines_of}
use Rattle.theorem_keeping.specs.{Kept}
use Rattle.theorem_keeping.proofs.Areas.{kept-areas}
use Rattle.theorem_round_trips.proofs.Trips.{read_kept}
use Rattle.book_room.proofs.Widths.{printed_most}
use Rattle.book_room.proofs.Reports.{applied-length}
use Rattle.call_output.proofs.TableBytes.{bytes_length}
use Rattle.call_answer.specs.{table_verdict, call_verdict, entry_bytes, parsed_bytes, call_bytes}
use Rattle.call_answer.proofs.Smaller.{call_clear}
use Rattle.call_book.specs.{most_written, begin, calls_from, sheet_from}
use Rattle.call_book.proofs.Taken.{act_kept}
use Rattle.call_book.proofs.Lengths.{statement-few}
use Rattle.call_book.proofs.CallsList.{calls_print, calls_list_within}

-- a table that is accepted is one
pub table_is : (table : List ℕ) → table_verdict table ≡ Ok tt → is_table (numbers_of table) ≡ true
unfolding table_verdict
table_is table e = not-false _ (clear_last (decodable table longest_table) (not (is_table (numbers_of table))) Refusal.TableColumn e)

module _ (own : List ℕ) (holding : Holding) (is_own : is_table own ≡ true) (kept : Kept holding) (line : List ℕ) where
  entry-few : (entry : Entry) → (entry_taken own holding line entry).verdict ≡ Ok tt → length (entry_bytes own holding line entry) ≤ most_written
  unfolding entry_bytes entry_taken
  entry-few (Entry.Column column) e =
      let grown = (answered_clear (growable own holding.count line) _ e).0 in
      omega (arith, bytes_length (longer_by own line), longer-fits own holding.count line grown)
  entry-few (Entry.On on) e =
      let outcome = applied own schedule6 holding on in
      let after = placed holding outcome in
      omega (
        arith,
        length-append (statement_of after) (report_text outcome.report),
        statement-few after (act_kept own holding is_own kept on),
        applied-length own is_own holding (kept-areas holding kept) on,
        printed_most on.act,
      )

parsed-few : (own : List ℕ) (holding : Holding) → is_table own ≡ true → Kept holding → (line : List ℕ) (parsed : Parsed)
    → (parsed_taken own holding line parsed).verdict ≡ Ok tt → length (parsed_bytes own holding line parsed) ≤ most_written
unfolding parsed_taken
parsed-few own holding is_own kept line (Ok entry) e = entry-few own holding is_own kept line entry e
parsed-few own holding is_own kept line (Err r) e = omega arith

pub call_few : (statement table line : List ℕ) → call_verdict statement table line ≡ Ok tt → length (call_bytes statement table line) ≤ most_written
unfolding call_bytes line_taken
call_few statement table line e =
    let parts = call_clear statement table line e in
    parsed-few (numbers_of table) (read_of statement).holding (table_is table parts.1) (read_kept limits statement parts.2) line (entry_of line) parts.3

module _ (out : List ℕ) (room : most_written ≤ length out) where
  -- each line is taken by a call; the statement, the table and the output of one call go to the next: they print the listing's lines before the foot
  pub calls_lines : (lines : List (List ℕ)) → calls_from (begin [] out) lines ≡ printed_from start lines
  calls_lines lines = calls_print most_written call_few out room lines

  -- with the foot of the last statement they are the listing
  pub calls_list : (lines : List (List ℕ)) → sheet_from (begin [] out) lines ≡ list_from start lines
  calls_list lines = calls_list_within most_written call_few out room lines (omega arith)

  -- so a book that `book` reads is run by calls as `book` runs it
  pub calls_book : (book : List ℕ) → length book ≤ longest_book → sheet_from (begin [] out) (lines_of book) ≡ listing_of book
  unfolding listing_of
  calls_book book short = calls_list (lines_of book) ∙ simp (le-ltb longest_book (length book) short)
