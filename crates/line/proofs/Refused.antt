-- What a line is refused with is the smallest number that applies: the table of every letter rises, and so does that of a whole line.
use Rattle.std.specs.Prelude.{Ok, Err}
use Rattle.laws.proofs.{ℕ, true, ◌≡◌, refl, List, arith}
use Rattle.text.specs.{split}
use Rattle.refusals.specs.{Refusal, Verdict, number_of}
use Rattle.refusals.proofs.Smallest.{Least, Rising, rises, rising, first_is_smallest}
use Rattle.line_entry.specs.{Entry, Rule, parsed, area_and_year, open_rule, add_rule, clear_rule, plant_rule, file_rule, withdraw_rule}
use Rattle.line_column.specs.{column_rule}
use Rattle.line.specs.{body_of, letter_of, no_rule, rule_of, line_rule, conditions, entry_of}
use Rattle.line.proofs.Letters.{of_letters}

rules_rise : (letter : ℕ) (fs : List (List ℕ)) → rises 1 (rule_of letter fs).cases ≡ true
unfolding no_rule column_rule area_and_year open_rule add_rule clear_rule plant_rule file_rule withdraw_rule rises
rules_rise letter fs = of_letters (λ (x : Rule). rises 1 x.cases ≡ true) fs refl refl refl refl refl refl refl refl letter

pub conditions_rise : (body : List ℕ) → Rising 1 (conditions body)
unfolding conditions line_rule rises
conditions_rise body = rising 1 (conditions body) (rules_rise (letter_of body) (split body))

-- a line is refused where a case applies
pub turned_by : (v : Verdict) (e : Entry) (r : Refusal) → parsed v e ≡ Err r → v ≡ Err r
unfolding parsed
turned_by (Ok _) e r q = let z : ◌≡◌ {A = ℕ} 0 1 = cc in absurd (omega arith)
turned_by (Err s) e r q = cc

pub refused-smallest : (line : List ℕ) (r : Refusal) → entry_of line ≡ Err r → Least (number_of r) (conditions (body_of line))
unfolding entry_of
refused-smallest line r e = first_is_smallest 1 (conditions (body_of line)) r (conditions_rise (body_of line)) (turned_by _ _ r e)
