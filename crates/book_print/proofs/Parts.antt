-- Lines put in parts: the pieces of two parts are the pieces of one line, so that the parts of a return, one after the other, are its line.
use Rattle.laws.proofs.{ℕ, ◌≡◌, refl, sym, ap, ◌∙◌, List, [], ◌∷◌, ◌++◌, append_assoc, eq-eqb, ne_eqb}
use Rattle.step_outcome.specs.{Filed, Report}
use Rattle.statement_format.specs.{start_text, number_text, joined}
use Rattle.statement_field.specs.{Put}
use Rattle.book_print.specs.{loss_text, change_text, report_text}

joined_parts_lem : (xs ys : List (List ℕ)) → joined xs ++ joined ys ≡ joined (xs ++ ys)
unfolding joined
joined_parts_lem [] ys = refl
joined_parts_lem (x ∷ xs) ys = append_assoc x (joined xs) (joined ys) ∙ ap (λ (l : List ℕ). x ++ l) (joined_parts_lem xs ys)

module _ {out : List ℕ} {at : ℕ} {after : List ℕ} {next : ℕ} where
  -- a change of 0 t has no sign
  pub loss_none : {j : ℕ} (tonnes : ℕ) → tonnes ≡ 0 → Put j out at (number_text 0 44) after next → Put j out at (loss_text tonnes) after next
  unfolding loss_text
  loss_none tonnes e a = simp (eq-eqb tonnes 0 e) a

  pub loss_some : {j : ℕ} (tonnes : ℕ) → (tonnes ≡ 0 → ⊥) → Put j out at (45 ∷ number_text tonnes 44) after next → Put j out at (loss_text tonnes) after next
  unfolding loss_text
  loss_some tonnes ne a = simp (ne_eqb tonnes 0 ne) a

-- a return's line is its years, its change and its units
pub return_is : (report : Report) (x : Filed) → report ≡ Report.Return x
    → joined (start_text 82 ∷ number_text x.area 44 ∷ number_text x.first 44 ∷ number_text x.last 44 ∷ [])
    ++ (change_text x.change ++ joined (number_text x.received 44 ∷ number_text x.due 44 ∷ number_text x.balance 10 ∷ []))
    ≡ report_text report
unfolding report_text joined
return_is report x e =
    joined_parts_lem
    (start_text 82 ∷ number_text x.area 44 ∷ number_text x.first 44 ∷ number_text x.last 44 ∷ [])
    (change_text x.change ∷ number_text x.received 44 ∷ number_text x.due 44 ∷ number_text x.balance 10 ∷ [])
    ∙ ap report_text (sym e)
