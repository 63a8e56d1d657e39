-- The listing of a book: a fold of one step over its lines.
use Rattle.std.specs.Prelude.{◌+◌, ◌∷◌, ◌++◌, Ok, Err, None}
use Rattle.laws.specs.{ℕ, cond, List, [], ltb, length}
use Rattle.refusals.specs.{Verdict, Refusal}
use Rattle.schedules.specs.{schedule6}
use Rattle.line_entry.specs.{Entry, Parsed}
use Rattle.line.specs.{entry_of}
use Rattle.holding.specs.{Holding, empty_area, empty_holding}
use Rattle.step_outcome.specs.{Outcome, turned_back, accepted, answered, placed, Report}
use Rattle.step.specs.{applied}
use Rattle.table_grow.specs.{growable, longer_by}
use Rattle.book_print.specs.{report_text, refusal_text, end_text}
use Rattle.book_foot.specs.{foot_of}
use Rattle.book_listing.specs.Lines.{lines_of}

-- what an accepted T line comes to, where so many areas stand: "T .. extends the table", and the holding stays
abbrev pub column_taken : ℕ → Outcome
column_taken areas = accepted Report.Nothing None areas empty_area

-- what an entry of a line comes to, on a holding and a table
unfoldable pub entry_taken : List ℕ → Holding → List ℕ → Entry → Outcome
entry_taken own holding line (Entry.Column column) = answered (growable own holding.count line) (column_taken holding.count)
entry_taken own holding line (Entry.On on) = applied own schedule6 holding on

-- "A line that cannot be read as an entry is refused before the holding is looked at."
unfoldable pub parsed_taken : List ℕ → Holding → List ℕ → Parsed → Outcome
parsed_taken own holding line (Ok entry) = entry_taken own holding line entry
parsed_taken own holding line (Err refusal) = turned_back refusal

unfoldable pub line_taken : List ℕ → Holding → List ℕ → Outcome
line_taken own holding line = parsed_taken own holding line (entry_of line)

-- the table that an entry leaves
abbrev pub entry_table : List ℕ → List ℕ → Entry → List ℕ
entry_table own line (Entry.Column column) = longer_by own line
entry_table own line (Entry.On on) = own

abbrev pub parsed_table : List ℕ → List ℕ → Parsed → List ℕ
parsed_table own line (Ok entry) = entry_table own line entry
parsed_table own line (Err refusal) = own

abbrev pub if_accepted : {A : Type 0} → Verdict → A → A → A
if_accepted (Ok _) new old = new
if_accepted (Err refusal) new old = old

-- the table after a line: longer where a T line is accepted
unfoldable pub table_after : List ℕ → Holding → List ℕ → List ℕ
table_after own holding line = if_accepted (line_taken own holding line).verdict (parsed_table own line (entry_of line)) own

-- what is carried from line to line
pub record Run : Type 0 where
  pub own : List ℕ
  pub holding : Holding
  pub accepted : ℕ
  pub refused : ℕ

unfoldable pub start : Run
start = record { own = []; holding = empty_holding; accepted = 0; refused = 0 }

unfoldable pub next : Run → List ℕ → Run
next run line =
    let outcome = line_taken run.own run.holding line in
    record {
      own = table_after run.own run.holding line;
      holding = placed run.holding outcome;
      accepted = if_accepted outcome.verdict (run.accepted + 1) run.accepted;
      refused = if_accepted outcome.verdict run.refused (run.refused + 1);
    }

-- what is printed for a line, by its number in the book and its outcome
unfoldable pub printed_for : ℕ → Verdict → Outcome → List ℕ
printed_for number (Ok _) outcome = report_text outcome.report
printed_for number (Err refusal) outcome = refusal_text number refusal

unfoldable pub printed : Run → List ℕ → List ℕ
printed run line =
    let outcome = line_taken run.own run.holding line in
    printed_for (run.accepted + run.refused + 1) outcome.verdict outcome

-- the run of lines, from some run on: a fold of `next`
unfoldable pub run_from : Run → List (List ℕ) → Run
run_from run [] = run
run_from run (line ∷ lines) = run_from (next run line) lines

-- what the lines print, one after the other
unfoldable pub printed_from : Run → List (List ℕ) → List ℕ
printed_from run [] = []
printed_from run (line ∷ lines) = printed run line ++ printed_from (next run line) lines

-- what closes a listing: the foot, and then E
abbrev pub closing : Run → List ℕ
closing run = foot_of run.holding ++ end_text run.accepted run.refused

unfoldable pub list_from : Run → List (List ℕ) → List ℕ
list_from run lines = printed_from run lines ++ closing (run_from run lines)

abbrev pub longest_book : ℕ
longest_book = 65536

-- the lines of a book that are run: none of one that is longer
unfoldable pub lines_run : List ℕ → List (List ℕ)
lines_run book = cond (ltb longest_book (length book)) [] (lines_of book)

-- "For a book over 65536 bytes `book` prints X,0,1 and E,0,1 alone."
abbrev pub refused_book : List ℕ
refused_book = refusal_text 0 Refusal.Form ++ end_text 0 1

unfoldable pub listing_of : List ℕ → List ℕ
listing_of book = cond (ltb longest_book (length book)) refused_book (list_from start (lines_of book))
