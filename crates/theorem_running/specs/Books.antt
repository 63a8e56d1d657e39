-- The listing of a book, whose T lines come before the first area.
use Rattle.std.specs.Prelude.{◌∷◌, ◌++◌}
use Rattle.laws.specs.{ℕ, Bool, List, [], get_or, keep}
use Rattle.text.specs.{line_end}
use Rattle.line_entry.specs.{AreaAct}
use Rattle.line.specs.{entry_of}
use Rattle.statement_format.specs.{texts, statement_of}
use Rattle.book_listing.specs.{lines_of, line_taken, if_accepted, Run, start, next, run_from, lines_run, listing_of}
use Rattle.call_book.specs.{is_report_letter}
use Rattle.theorem_running.specs.Running.{acts_in, RunAccounted}

-- the acts of the lines that were accepted, from some run on
unfoldable pub acts_from : Run → List (List ℕ) → List AreaAct
acts_from run [] = []
acts_from run (line ∷ lines) =
    if_accepted (line_taken run.own run.holding line).verdict (acts_in (entry_of line)) [] ++ acts_from (next run line) lines

-- a line of a listing that begins with R or W
abbrev pub is_report : List ℕ → Bool
is_report line = is_report_letter (get_or line 0 0)

abbrev pub ended : List ℕ → List ℕ
ended line = line ++ (line_end ∷ [])

-- those of a listing, one after the other
unfoldable pub reports_in : List ℕ → List ℕ
reports_in listing = texts ended (keep is_report (lines_of listing))

-- demand 3 for the listing of a book, under the table that its T lines made
abbrev pub BookAccounted : List ℕ → ℕ → Type 0
BookAccounted book n =
    let after = run_from start (lines_run book) in
    RunAccounted after.own (acts_from start (lines_run book)) (statement_of after.holding) (reports_in (listing_of book)) n
