-- One turn of the loop is one row of the fold: the row at a place is taken as its line is by any book, and the rows behind it follow.
use Rattle.std.specs.Prelude.{Ok, Err, Option}
use Rattle.laws.proofs.{ℕ, ◌+◌, ◌≤◌, ◌<◌, ◌≡◌, refl, sym, ap, ◌∙◌, List, [], ◌∷◌, ◌++◌, length, take, drop}
use Rattle.refusals.specs.{Refusal, Verdict}
use Rattle.text.specs.{comma, line_end}
use Rattle.schedules.specs.{schedule6}
use Rattle.line_entry.specs.{Entry, Parsed}
use Rattle.line.specs.{entry_of}
use Rattle.holding.specs.{Area, Holding, numbers_in}
use Rattle.holding_look.specs.{Looked, area_at}
use Rattle.step_outcome.specs.{Outcome, turned_back, placed}
use Rattle.step.specs.{acted, applied}
use Rattle.book_listing.specs.{entry_taken, parsed_taken, line_taken}
use Rattle.book_find.specs.{Named, named_by}
use Rattle.book_find.proofs.Naming.{looked_for, looked_for_lem, looked_up_lem}
use Rattle.sheet_read.specs.{Reading, rows_of, width_from}
use Rattle.sheet_read.proofs.Joined.{first_of, first_row, rows_none}
use Rattle.sheet_import.specs.{Imported, row_taken, imported_if, import_rows, line_at}
use Rattle.sheet_import.proofs.Lines.{no_column_lem}

-- ---- what a row comes to

-- by what it was read as; no row is read as a column, and the refusal that stands there has no meaning
abbrev pub row_outcome : List ℕ → List ℕ → Looked → Parsed → Outcome
row_outcome own default looked (Ok (Entry.Column column)) = turned_back Refusal.Form
row_outcome own default looked (Ok (Entry.On on)) = acted own default looked on.act
row_outcome own default looked (Err refusal) = turned_back refusal

module _ (own default : List ℕ) (looked : Looked) (parsed : Parsed) where
  pub read-refused : (refusal : Refusal) → parsed ≡ Err refusal → (row_outcome own default looked parsed).verdict ≡ Err refusal
  read-refused refusal e = ap (λ (x : Parsed). (row_outcome own default looked x).verdict) e

  pub read_column : (column : ℕ) → parsed ≡ Ok (Entry.Column column) → (row_outcome own default looked parsed).verdict ≡ Err Refusal.Form
  read_column column e = ap (λ (x : Parsed). (row_outcome own default looked x).verdict) e

module _ (own : List ℕ) (holding : Holding) (numbers : List ℕ) (n : numbers ≡ numbers_in holding.areas) (joined : List ℕ) where
  abbrev line : List ℕ
  line = 83 ∷ comma ∷ (joined ++ (line_end ∷ []))

  row_taken_lem : (parsed : Parsed) → entry_of line ≡ parsed → row_outcome own schedule6 (looked_for holding numbers parsed) parsed ≡ parsed_taken own holding line parsed
  unfolding parsed_taken entry_taken applied
  row_taken_lem (Ok (Entry.Column column)) e = absurd (no_column_lem joined column e)
  row_taken_lem (Ok (Entry.On on)) e = ap (λ (x : Looked). acted own schedule6 x on.act) (looked_up_lem holding numbers n on)
  row_taken_lem (Err refusal) e = refl

  pub outcome_is : (default : List ℕ) (parsed : Parsed) (names : Named) (found : Option ℕ) (area : Area) (outcome : Outcome)
      → outcome ≡ row_outcome own default (record { number = names.number; count = holding.count; found = found; area = area }) parsed
      → parsed ≡ entry_of line → names ≡ named_by (take holding.count numbers) parsed → found ≡ names.found → area ≡ area_at holding found → default ≡ schedule6
      → outcome ≡ line_taken own holding line
  unfolding line_taken
  outcome_is default parsed names found area outcome t p m f a d =
      t
      ∙ ap (λ (x : Looked). row_outcome own default x parsed) (looked_for_lem holding numbers parsed names found area m f a)
      ∙ ap (λ (l : List ℕ). row_outcome own l (looked_for holding numbers parsed) parsed) d
      ∙ row_taken_lem parsed (sym p)
      ∙ ap (parsed_taken own holding line) p

-- ---- the rows from a place on

module _ (own : List ℕ) (given holding : Holding) (sheet : List ℕ) (at : ℕ) where
  pub rows_over : length sheet ≤ at → record { verdict = (Ok tt); holding = holding } ≡ import_rows own given holding (rows_of (drop at sheet))
  unfolding import_rows
  rows_over h = rw (rows_none sheet at h)

  module _ (inside : at < length sheet) (outcome : Outcome) (o : outcome ≡ line_taken own holding (line_at sheet at)) where
    abbrev rest : Imported
    rest = import_rows own given (placed holding outcome) (rows_of (drop (at + width_from Reading.RowStart (drop at sheet)) sheet))

    turned : import_rows own given holding (rows_of (drop at sheet)) ≡ imported_if outcome.verdict given rest
    unfolding import_rows
    turned =
        let first = first_row sheet at inside in
        let taken : row_taken own holding (first_of (rows_of (drop at sheet))) ≡ outcome = ap (λ (j : List ℕ). line_taken own holding (83 ∷ comma ∷ (j ++ (line_end ∷ [])))) first.text ∙ sym o in
        ap (import_rows own given holding) first.first
        ∙ ap (λ (x : Outcome). imported_if x.verdict given (import_rows own given (placed holding x) (rows_of (drop (at + width_from Reading.RowStart (drop at sheet)) sheet)))) taken

    pub row_refused : (refusal : Refusal) → outcome.verdict ≡ Err refusal
        → record { verdict = Err refusal; holding = given } ≡ import_rows own given holding (rows_of (drop at sheet))
    row_refused refusal v = sym (turned ∙ ap (λ (x : Verdict). imported_if x given rest) v)

    pub row_added : outcome.verdict ≡ Ok tt → rest ≡ import_rows own given holding (rows_of (drop at sheet))
    row_added v = sym (turned ∙ ap (λ (x : Verdict). imported_if x given rest) v)
