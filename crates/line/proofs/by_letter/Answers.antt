-- `line::by_letter` meets its contract: an arm's letter has the arm's rule, and no other letter has any.
use Rattle.laws.proofs.{ℕ, ◌≡◌, false, eqb, ne_eqb, arith}
use Rattle.line.specs.{rule_of}
use Rattle.line.proofs.Laws.{rule_known, rule_unknown}
use Rattle.line.proofs.by_letter.Goals as goal

pub returns-in-84 : goal.returns-in-84
unfolding rule_of
returns-in-84 c = rule_known _ _ 84 _ c.letter.ensures c.in-84.is c.column_entry.ensures

pub returns-in-65 : goal.returns-in-65
unfolding rule_of
returns-in-65 c = rule_known _ _ 65 _ c.letter.ensures c.in-65.is c.open_entry.ensures

pub returns-in-83 : goal.returns-in-83
unfolding rule_of
returns-in-83 c = rule_known _ _ 83 _ c.letter.ensures c.in-83.is c.add_entry.ensures

pub returns-in-67 : goal.returns-in-67
unfolding rule_of
returns-in-67 c = rule_known _ _ 67 _ c.letter.ensures c.in-67.is c.clear_entry.ensures

pub returns-in-80 : goal.returns-in-80
unfolding rule_of
returns-in-80 c = rule_known _ _ 80 _ c.letter.ensures c.in-80.is c.plant_entry.ensures

pub returns-in-82 : goal.returns-in-82
unfolding rule_of
returns-in-82 c = rule_known _ _ 82 _ c.letter.ensures c.in-82.is c.file_entry.ensures

pub returns-in-87 : goal.returns-in-87
unfolding rule_of
returns-in-87 c = rule_known _ _ 87 _ c.letter.ensures c.in-87.is c.withdraw_entry.ensures

pub returns-in_default : goal.returns-in_default
unfolding rule_of
returns-in_default c =
    let x = c.letter.result in
    let other : (n : ℕ) → (x ≡ n → ⊥) → eqb x n ≡ false = λ n h. ne_eqb x n h in
    rule_unknown _ _ c.letter.ensures
    (simp (
      other 84 (omega arith),
      other 65 (omega arith),
      other 83 (omega arith),
      other 67 (omega arith),
      other 80 (omega arith),
      other 82 (omega arith),
      other 87 (omega arith),
    ))
