-- A line that is read as an S entry has the letter S and six fields: of the letters' rules S's alone gives such an entry, and it asks for these.
use Rattle.std.specs.Prelude.{Ok, Err}
use Rattle.laws.proofs.{ℕ, ◌≡◌, refl, ap, ◌∙◌, true, false, List, eqb-true, not-false, length, get_or, sym}
use Rattle.laws.proofs.Elements.{or_false_left, or_false_right, clash}
use Rattle.refusals.specs.{Refusal, Verdict, ◌⇒◌, smallest}
use Rattle.refusals.proofs.Laws.{ruled_out}
use Rattle.text.specs.{split, field_at}
use Rattle.line_entry.specs.{Rule, letter_in, misnamed, misformed, parsed, open_rule, add_rule, clear_rule, plant_rule, file_rule, withdraw_rule}
use Rattle.line_column.specs.{column_rule}
use Rattle.line.specs.{body_of, letter_of, no_rule, rule_of, line_rule, conditions, entry_of}
use Rattle.line.proofs.Letters.{of_letters}
use Rattle.book_export.specs.{is_addition}

-- six fields, of which the first is the letter
pub record SixFields (fs : List (List ℕ)) : Type 0 where
  pub many : length fs ≡ 6
  pub named : letter_in (field_at fs 0) ≡ 83

rule_adds : (letter : ℕ) (fs : List (List ℕ)) → is_addition (Ok (rule_of letter fs).entry) ≡ true → add_rule fs ≡ rule_of letter fs
unfolding open_rule add_rule clear_rule plant_rule file_rule withdraw_rule column_rule no_rule
rule_adds letter fs =
    of_letters (λ (rule : Rule). is_addition (Ok rule.entry) ≡ true → add_rule fs ≡ rule) fs
    (λ e. clash (sym e)) (λ e. clash (sym e)) (λ e. refl) (λ e. clash (sym e)) (λ e. clash (sym e)) (λ e. clash (sym e)) (λ e. clash (sym e)) (λ e. clash (sym e)) letter

pub addition_fields : (line : List ℕ) → is_addition (entry_of line) ≡ true → SixFields (split (body_of line))
unfolding entry_of parsed line_rule conditions add_rule
addition_fields line a = go (smallest (conditions body)) refl a
  where
    body : List ℕ
    body = body_of line

    fs : List (List ℕ)
    fs = split body

    go : (v : Verdict) → smallest (conditions body) ≡ v → is_addition (parsed v (line_rule body).entry) ≡ true → SixFields fs
    go (Err r) e a = clash (sym a)
    go (Ok _) e a =
        let formed : misformed 83 6 fs ≡ false =
        ap (λ (rule : Rule). (get_or rule.cases 0 (false ⇒ Refusal.Form)).applies) (rule_adds (letter_of body) fs a) ∙ ruled_out (conditions body) e 2 in
        record {
          many = eqb-true (length fs) 6 (not-false _ (or_false_right (misnamed 83 fs) _ formed));
          named = eqb-true (letter_in (field_at fs 0)) 83 (not-false _ (or_false_left (misnamed 83 fs) _ formed));
        }
