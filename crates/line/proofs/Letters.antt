-- What holds of the rule of each letter, and of the rule of no letter, holds of the rule of any byte.
use Rattle.laws.proofs.{ℕ, Bool, true, false, cond, List, eqb}
use Rattle.line_entry.specs.{Rule, open_rule, add_rule, clear_rule, plant_rule, file_rule, withdraw_rule}
use Rattle.line_column.specs.{column_rule}
use Rattle.line.specs.{no_rule, rule_of}

-- the rule of a letter other than T
abbrev pub act_rule : ℕ → List (List ℕ) → Rule
act_rule letter fs =
    cond (eqb letter 65) (open_rule fs)
    (cond (eqb letter 83) (add_rule fs)
    (cond (eqb letter 67) (clear_rule fs)
    (cond (eqb letter 80) (plant_rule fs)
    (cond (eqb letter 82) (file_rule fs)
    (cond (eqb letter 87) (withdraw_rule fs)
    no_rule)))))

module _ (P : Rule → Type 0) (fs : List (List ℕ)) where
  either : (t : Bool) (x y : Rule) → P x → P y → P (cond t x y)
  either true x y p q = p
  either false x y p q = q

  pub of_acts : P (open_rule fs) → P (add_rule fs) → P (clear_rule fs) → P (plant_rule fs) → P (file_rule fs) → P (withdraw_rule fs) → P no_rule
      → (letter : ℕ) → P (act_rule letter fs)
  of_acts a s c p r w none letter =
      either (eqb letter 65) _ _ a (either (eqb letter 83) _ _ s (either (eqb letter 67) _ _ c (either (eqb letter 80) _ _ p
      (either (eqb letter 82) _ _ r (either (eqb letter 87) _ _ w none)))))

  pub of_letters : P (column_rule fs) → P (open_rule fs) → P (add_rule fs) → P (clear_rule fs) → P (plant_rule fs) → P (file_rule fs) → P (withdraw_rule fs)
      → P no_rule → (letter : ℕ) → P (rule_of letter fs)
  unfolding rule_of
  of_letters t a s c p r w none letter = either (eqb letter 84) _ _ t (of_acts a s c p r w none letter)
