-- A book's accepted acts are accepted under its table; so its A and S entries are accepted alone, and in the same way with the A entries first. The rows of
-- its export are read as its S entries: they are taken on the holding that the A entries reach, and lead to the holding of both.
use Rattle.std.specs.Prelude.{Ok}
use Rattle.laws.proofs.{ℕ, true, ◌≡◌, refl, sym, ap, ◌∙◌, List, [], ◌∷◌, map, drop}
use Rattle.laws.specs.{every, keep}
use Rattle.refusals.specs.{Verdict, smallest, weigh_all, weighed}
use Rattle.holding.specs.{empty_holding}
use Rattle.step.specs.{holding_from}
use Rattle.book_listing.specs.{lines_run, start}
use Rattle.book_export.specs.{exported_from, export_rows, export_of}
use Rattle.sheet_read.specs.{Row, rows_of}
use Rattle.sheet_judge.specs.{heading_row, five_fields, regular, sheet_verdict, same_by}
use Rattle.sheet_import.specs.{sheet_rows, Imported, imported_if, import_rows, import_onto}
use Rattle.theorem_rows.specs.{has_field}
use Rattle.theorem_rows.proofs.Inverse.{rows_read, sheet_sound}
use Rattle.theorem_keeping.proofs.Lists.{each_so, every_each, each_every}
use Rattle.theorem_keeping.proofs.Keeping.{empty_kept}
use Rattle.theorem_running.specs.{all_accepted}
use Rattle.theorem_running.proofs.BookAccounted.{book_accounted, book_table}
use Rattle.theorem_sheets.specs.{opens_area, adds_sub, opens_or_adds, table_of, acts_of, alone, imported, entry_on, row_entries, GivenBack}
use Rattle.theorem_sheets.proofs.Taken.{Taken, taken_all, all_taken, entered_outcomes}
use Rattle.theorem_sheets.proofs.Alone.{acts_alone}
use Rattle.theorem_sheets.proofs.OpensFirst.{OpensFirst, opens-first}
use Rattle.theorem_sheets.proofs.Lines.{run-whole}
use Rattle.theorem_sheets.proofs.Rows.{rows_entries, rows_five}
use Rattle.theorem_sheets.proofs.Imports.{rows_taken}

-- ---- the book's acts

module _ (book : List ℕ) where
  abbrev own : List ℕ
  own = table_of book

  -- all of them are accepted, under the table that stands in the end
  acts_taken : Taken own empty_holding (acts_of book)
  acts_taken =
      all_taken own empty_holding (acts_of book)
      (ap all_accepted (sym (entered_outcomes own empty_holding (acts_of book))) ∙ (book_accounted book 0).accepted)

  sorted : OpensFirst own empty_holding (keep opens_area (acts_of book)) (keep adds_sub (acts_of book)) (keep opens_or_adds (acts_of book))
  sorted =
      opens-first own (book_table book) (acts_of book) empty_holding empty_kept
      (acts_alone own (book_table book) (acts_of book) empty_holding empty_holding empty_kept empty_kept refl acts_taken)

  -- ---- its export

  abbrev rows : List Row
  rows = exported_from start (lines_run book)

  abbrev five : every five_fields rows ≡ true
  five = rows_five (lines_run book) start

  fields : every has_field (heading_row ∷ rows) ≡ true
  unfolding every
  fields = each_every has_field rows (each_so (λ (row : Row). five_fields row ≡ true) (λ (row : Row). has_field row ≡ true) some rows (every_each five_fields rows five))
    where
      some : (row : Row) → five_fields row ≡ true → has_field row ≡ true
      some [] e = e
      some (field ∷ row) e = refl

  read : rows_of (export_of book) ≡ heading_row ∷ rows
  unfolding export_of export_rows
  read = rows_read (heading_row ∷ rows) fields

  -- the sheet is sound, begins with the heading, and has rows of five fields
  judged : sheet_verdict (export_of book) ≡ Ok tt
  unfolding export_of export_rows sheet_verdict regular same_by smallest weigh_all weighed
  judged = rw (sheet_sound (heading_row ∷ rows) fields, read, five)

  rows_are : sheet_rows (export_of book) ≡ rows
  rows_are = ap (drop 1) read

  entries_are : row_entries rows ≡ map entry_on (keep adds_sub (acts_of book))
  entries_are = rows_entries (lines_run book) start (run-whole book)

  -- it is taken on the holding that the A entries reach
  taken : imported book ≡ record { verdict = (Ok tt); holding = holding_from own (alone book) (keep adds_sub (acts_of book)) }
  unfolding import_onto
  taken =
      ap (λ (v : Verdict). imported_if v (alone book) (import_rows own (alone book) (alone book) (sheet_rows (export_of book)))) judged
      ∙ ap (import_rows own (alone book) (alone book)) rows_are
      ∙ rows_taken own (book_table book) (alone book) (alone book) rows (keep adds_sub (acts_of book)) entries_are sorted.added

-- THE THEOREM: for every book
pub given_back : (book : List ℕ) → GivenBack book
given_back book = record {
  opened = taken_all (table_of book) empty_holding (keep opens_area (acts_of book)) (sorted book).opened;
  taken = ap (λ (i : Imported). i.verdict) (taken book);
  entries = ap row_entries (rows_are book) ∙ entries_are book;
  reached = ap (λ (i : Imported). i.holding) (taken book) ∙ (sorted book).same;
}
