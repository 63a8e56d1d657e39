-- The row of a line, by whether it is exported: an accepted line counts as one, and a row by itself is the sheet's text of it.
use Rattle.std.specs.Prelude.{Ok, Err}
use Rattle.laws.proofs.{ℕ, ◌≡◌, refl, sym, ap, ◌∙◌, Bool, true, false, cond, ◌&&◌, List, [], ◌∷◌, append-nil, eqb}
use Rattle.refusals.specs.{Verdict}
use Rattle.line_entry.specs.{Parsed}
use Rattle.statement_format.specs.{texts}
use Rattle.sheet_read.specs.{Row}
use Rattle.sheet_write.specs.{row_text, sheet_text, row_of}
use Rattle.book_listing.specs.{if_accepted}
use Rattle.book_export.specs.{is_addition, is_exported, exported_for}

one_counted : (v : Verdict) (added : Bool) → (added && eqb (if_accepted v 1 0) 1) ≡ if_accepted v added false
one_counted (Ok _) true = refl
one_counted (Ok _) false = refl
one_counted (Err r) true = refl
one_counted (Err r) false = refl

module _ (verdict : Verdict) (parsed : Parsed) where
  pub tested : (added : Bool) → added ≡ is_addition parsed → (counted : ℕ) → counted ≡ if_accepted verdict 1 0 → (added && eqb counted 1) ≡ is_exported verdict parsed
  tested added a counted n = rw (a, n) (one_counted verdict (is_addition parsed))

  module _ (line : List ℕ) (exported : Bool) (e : exported ≡ is_exported verdict parsed) where
    abbrev rows : Bool → List Row
    rows b = cond b (row_of line ∷ []) []

    pub row_put : exported ≡ true → row_text (row_of line) ≡ sheet_text (exported_for verdict parsed line)
    unfolding sheet_text texts
    row_put t = sym (append-nil (row_text (row_of line))) ∙ ap (λ (b : Bool). texts row_text (rows b)) (sym t ∙ e)

    pub none_put : exported ≡ false → [] ≡ sheet_text (exported_for verdict parsed line)
    unfolding sheet_text texts
    none_put t = ap (λ (b : Bool). texts row_text (rows b)) (sym t ∙ e)
