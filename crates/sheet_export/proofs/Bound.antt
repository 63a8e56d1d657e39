-- An export has at most 42 bytes and 3 for each byte of its book and one more, since a row has at most 3 bytes for each byte of its line and its end.
use Rattle.std.specs.Prelude.{Ok, Err}
use Rattle.laws.proofs.{ℕ, ◌*◌, ◌≤◌, ◌≡◌, refl, ap, Bool, true, false, cond, List, [], ◌∷◌, append-nil, arith, length, length-append, ltb-false}
use Rattle.laws.specs.{sum_by}
use Rattle.text.specs.{join, join_after}
use Rattle.statement_format.specs.{texts}
use Rattle.statement_format.proofs.Texts.{texts-append}
use Rattle.refusals.specs.{Verdict}
use Rattle.refusals.proofs.Laws.{ruled_out}
use Rattle.line.specs.{entry_of}
use Rattle.book_listing.specs.{line_taken, if_accepted, Run, start, next, longest_book, lines_run}
use Rattle.book_listing.proofs.Lines.{weight, lines_weigh, lines_run_lem}
use Rattle.sheet_judge.specs.{heading_row}
use Rattle.sheet_write.specs.{doubled, quoted, row_text, sheet_text, row_of}
use Rattle.book_export.specs.{is_addition, exported_row, exported_from, export_rows, export_of, export_weighed}
use Rattle.sheet_export.specs.{heading_width, most_for_byte, export_room}
use Rattle.sheet_export.proofs.Widths.{addition_few}

line_few : (run : Run) (line : List ℕ) → length (sheet_text (exported_row run line)) ≤ most_for_byte * weight line
unfolding exported_row sheet_text texts
line_few run line = go (line_taken run.own run.holding line).verdict (is_addition (entry_of line)) refl
  where
    go : (v : Verdict) (x : Bool) → is_addition (entry_of line) ≡ x → length (texts row_text (cond (if_accepted v x false) (row_of line ∷ []) [])) ≤ most_for_byte * weight line
    go (Ok _) true e = omega (arith, ap length (append-nil (row_text (row_of line))), addition_few line e)
    go (Ok _) false e = omega arith
    go (Err r) x e = omega arith

lines_few : (run : Run) (lines : List (List ℕ)) → length (sheet_text (exported_from run lines)) ≤ most_for_byte * sum_by weight lines
unfolding exported_from sheet_text texts sum_by
lines_few run [] = omega arith
lines_few run (line ∷ lines) =
    let rest = exported_from (next run line) lines in
    omega (
      arith,
      ap length (texts-append row_text (exported_row run line) rest),
      length-append (texts row_text (exported_row run line)) (texts row_text rest),
      line_few run line,
      lines_few (next run line) lines,
    )

heading_long : length (row_text heading_row) ≡ heading_width
unfolding row_text join join_after quoted doubled
heading_long = refl

-- there is room for the export of any book
pub export_at_most : (book : List ℕ) → length book ≤ longest_book → length (export_of book) ≤ export_room
unfolding export_of export_rows sheet_text texts
export_at_most book h =
    omega (
      arith,
      length-append (row_text heading_row) (texts row_text (exported_from start (lines_run book))),
      heading_long,
      lines_few start (lines_run book),
      ap (sum_by weight) (lines_run_lem book h),
      lines_weigh book,
    )

-- so an export that is not refused has few bytes
pub export_few : (book : List ℕ) → export_weighed book ≡ Ok tt → length (export_of book) ≤ export_room
export_few book clear = export_at_most book (ltb-false longest_book (length book) (ruled_out _ clear 0))
