-- The heading, and the rows of all lines, are the export; it is short of the greatest place, so that a measure is its length, and where
-- there is room for any no measure is needed.
use Rattle.std.specs.Prelude.{Ok, Err}
use Rattle.laws.proofs.{ℕ, ◌≤◌, ◌<◌, ◌≡◌, refl, List, ◌++◌, arith, lt-ltb, le-ltb, length}
use Rattle.text.specs.{Wrote, greatest}
use Rattle.statement_format.specs.{texts}
use Rattle.refusals.specs.{Refusal, Verdict, weighed, weigh_all, smallest, written, buffer_after, Written}
use Rattle.statement_write.specs.{writable}
use Rattle.statement_write.proofs.Writable.{accepted}
use Rattle.book_print.specs.{refusal_text}
use Rattle.book_listing.specs.{start, lines_run, longest_book}
use Rattle.sheet_judge.specs.{heading_row}
use Rattle.sheet_write.specs.{row_text, sheet_text}
use Rattle.book_export.specs.{exported_from, export_rows, export_of, export_weighed}
use Rattle.sheet_export.specs.{export_room, sheet_printed}
use Rattle.sheet_export.proofs.Bound.{export_at_most}

module _ (book : List ℕ) where
  pub export_whole : row_text heading_row ++ sheet_text (exported_from start (lines_run book)) ≡ export_of book
  unfolding export_of export_rows sheet_text texts
  export_whole = refl

  pub too_long : longest_book < length book → export_weighed book ≡ Err Refusal.Form
  unfolding smallest weigh_all weighed
  too_long h = simp (lt-ltb longest_book (length book) h)

  pub printed-over : longest_book < length book → refusal_text 0 Refusal.Form ≡ sheet_printed book
  unfolding sheet_printed
  printed-over h = simp (lt-ltb longest_book (length book) h)

  module _ (short : length book ≤ longest_book) where
    pub weighed_clear : export_weighed book ≡ Ok tt
    unfolding smallest weigh_all weighed
    weighed_clear = simp (le-ltb longest_book (length book) short)

    pub printed-within : export_of book ≡ sheet_printed book
    unfolding sheet_printed
    printed-within = simp (le-ltb longest_book (length book) short)

    pub bounded : length (export_of book) ≤ greatest
    bounded = omega (arith, export_at_most book short)

    module _ {buffer after : List ℕ} {n : ℕ} (w : Wrote buffer 0 (export_of book) after n) (room : export_room ≤ length buffer) where
      pub unmeasured : (Ok n ≡ written (writable (export_of book) (length buffer)) (export_of book))
          × (after ≡ buffer_after (writable (export_of book) (length buffer)) (export_of book) buffer)
      unmeasured = accepted (export_of book) n w bounded buffer after n (omega (arith, w.place, export_at_most book short)) w
