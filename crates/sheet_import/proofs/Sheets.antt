-- A sheet is refused before its rows, or its rows behind the heading are taken: a sheet that is not refused has a first row.
use Rattle.std.specs.Prelude.{Ok, Err}
use Rattle.laws.proofs.{ℕ, ◌+◌, ◌<◌, ◌≡◌, sym, ap, ◌∙◌, true, List, ⊎_elim, arith, length, drop, not-false}
use Rattle.laws.proofs.Order.{below_or_not}
use Rattle.refusals.specs.{Refusal, Verdict}
use Rattle.refusals.proofs.Laws.{ruled_out}
use Rattle.holding.specs.{Holding}
use Rattle.sheet_read.specs.{Reading, rows_of, width_from}
use Rattle.sheet_read.proofs.Joined.{first_row, rows_none}
use Rattle.sheet_judge.specs.{regular, sheet_verdict}
use Rattle.sheet_import.specs.{Imported, sheet_rows, import_rows, import_onto}

module _ (own : List ℕ) (holding : Holding) (sheet : List ℕ) (v : Verdict) (e : v ≡ sheet_verdict sheet) where
  pub sheet_refused : (refusal : Refusal) → v ≡ Err refusal → record { verdict = Err refusal; holding = holding } ≡ import_onto own holding sheet
  unfolding import_onto
  sheet_refused refusal r = rw (sym e ∙ r)

  module _ (clear : v ≡ Ok tt) where
    -- it has a row
    some : 0 < length sheet
    unfolding sheet_verdict regular
    some =
        ⊎_elim (λ h. h)
        (λ none.
        let rows = rows_none sheet 0 none in
        let keeps : regular (rows_of sheet) ≡ true = not-false _ (ruled_out _ (sym e ∙ clear) 1) in
        let z : ◌≡◌ {A = ℕ} 0 1 = cc in absurd (omega arith))
        (below_or_not 0 (length sheet))

    behind : sheet_rows sheet ≡ rows_of (drop (0 + width_from Reading.RowStart sheet) sheet)
    behind = ap (drop 1) (first_row sheet 0 some).first

    pub sheet_taken : (next : ℕ) (imported : Imported) → next ≡ 0 + width_from Reading.RowStart sheet → imported ≡ import_rows own holding holding (rows_of (drop next sheet))
        → imported ≡ import_onto own holding sheet
    unfolding import_onto
    sheet_taken next imported n i =
        rw (sym e ∙ clear)
        (i ∙ ap (λ (k : ℕ). import_rows own holding holding (rows_of (drop k sheet))) n ∙ ap (import_rows own holding holding) (sym behind))
