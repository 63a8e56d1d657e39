-- The rows of a line, and of those behind it, are those of all; they do not depend on how many lines were accepted and refused before.
use Rattle.laws.proofs.{ℕ, ◌+◌, ◌-◌, ◌<◌, ◌≡◌, refl, sym, ap, ◌∙◌, List, [], ◌∷◌, ◌++◌, length, take, drop, lt-ltb}
use Rattle.text.specs.{line_end, width_to}
use Rattle.holding.specs.{Area, Holding}
use Rattle.statement_format.specs.{texts}
use Rattle.statement_format.proofs.Texts.{texts-append}
use Rattle.sheet_read.specs.{Row}
use Rattle.sheet_write.specs.{row_text, sheet_text}
use Rattle.book_listing.specs.{Run, start, next, lines_run, longest_book}
use Rattle.book_listing.proofs.Lines.{lines_at}
use Rattle.book_export.specs.{exported_row, exported_from}
use Rattle.book_run.specs.{lines_from}

rows_same : (own : List ℕ) (holding : Holding) (a r b s : ℕ) (lines : List (List ℕ))
    → exported_from (record { own = own; holding = holding; accepted = a; refused = r }) lines
    ≡ exported_from (record { own = own; holding = holding; accepted = b; refused = s }) lines
unfolding exported_from exported_row next
rows_same own holding a r b s [] = refl
rows_same own holding a r b s (line ∷ lines) =
    let run : Run = record { own = own; holding = holding; accepted = a; refused = r } in
    let after = next run line in
    ap (λ (t : List Row). exported_row run line ++ t) (rows_same after.own after.holding _ _ _ _ lines)

-- what a run has come to, its lines not counted
abbrev pub uncounted : List ℕ → Holding → Run
uncounted own holding = record { own = own; holding = holding; accepted = 0; refused = 0 }

-- the holding of so many areas
abbrev pub holding_of : ℕ → List Area → Holding
holding_of standing areas = record { count = standing; areas = areas }

pub rows_alike : (run : Run) (lines : List (List ℕ)) → sheet_text (exported_from (uncounted run.own run.holding) lines) ≡ sheet_text (exported_from run lines)
rows_alike run lines = ap sheet_text (rows_same run.own run.holding 0 0 run.accepted run.refused lines)

-- the lines of a book that is too long are not run
pub rows_over : (book : List ℕ) → longest_book < length book → [] ≡ sheet_text (exported_from start (lines_run book))
unfolding lines_run exported_from sheet_text texts
rows_over book h = simp (lt-ltb longest_book (length book) h)

-- a line, and those behind it
pub lines_next : (book : List ℕ) (i end : ℕ) → i < length book → end ≡ i + width_to line_end (drop i book)
    → take (end - i) (drop i book) ∷ lines_from book (end + 1) ≡ lines_from book i
lines_next book i end h e = sym (lines_at book i end h e)

module _ (run : Run) where
  pub rows_line : (line : List ℕ) (rest lines : List (List ℕ)) (after : Run) → after ≡ next run line → line ∷ rest ≡ lines
      → sheet_text (exported_row run line) ++ sheet_text (exported_from after rest) ≡ sheet_text (exported_from run lines)
  unfolding exported_from sheet_text
  rows_line line rest lines after q e =
      ap (λ (r : Run). sheet_text (exported_row run line) ++ sheet_text (exported_from r rest)) q
      ∙ sym (texts-append row_text (exported_row run line) (exported_from (next run line) rest))
      ∙ ap (λ (l : List (List ℕ)). sheet_text (exported_from run l)) e

  pub rows_none : (lines : List (List ℕ)) → lines ≡ [] → [] ≡ sheet_text (exported_from run lines)
  unfolding exported_from sheet_text texts
  rows_none lines h = sym (ap (λ (l : List (List ℕ)). sheet_text (exported_from run l)) h)
