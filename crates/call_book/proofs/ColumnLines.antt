-- A line that is read as an entry is a T entry just when its first byte is T: its letter is its first byte, and only T's rule makes a column.
use Rattle.std.specs.Prelude.{Ok}
use Rattle.laws.proofs.{ℕ, ◌-◌, ◌<◌, ◌≡◌, refl, sym, ap, ◌∙◌, Bool, true, false, cond, List, [], ◌∷◌, arith, eqb, length, get_or, take, length-take, get_or-take}
use Rattle.laws.proofs.Elements.{clash}
use Rattle.text.specs.{split}
use Rattle.refusals.specs.{smallest, Verdict}
use Rattle.refusals.proofs.Laws.{ruled_out}
use Rattle.line_entry.specs.{Entry, Parsed}
use Rattle.line.specs.{body_of, letter_of, no_rule, rule_of, line_rule, conditions, entry_of}
use Rattle.line.proofs.Columns.{taken_by, is_column, column_rule_lem}
use Rattle.call_book.specs.{is_column_line}

-- what has no letter is refused
no_letter : (body : List ℕ) → letter_of body ≡ 0 → smallest (conditions body) ≡ Ok tt → ⊥
unfolding conditions line_rule rule_of no_rule
no_letter body e clear = let out = ruled_out (conditions body) clear 2 in clash (simp e at out)

letter_first : (body : List ℕ) → smallest (conditions body) ≡ Ok tt → (letter_of body ≡ get_or body 0 0) × (0 < length body)
unfolding letter_of
letter_first [] clear = absurd (no_letter [] refl clear)
letter_first (b ∷ []) clear = (refl, omega arith)
letter_first (b ∷ c ∷ body) clear = go (eqb c 44) refl
  where
    go : (t : Bool) → eqb c 44 ≡ t → (cond (eqb c 44) b 0 ≡ b) × (0 < length (b ∷ c ∷ body))
    go true e = (simp e, omega arith)
    go false e = absurd (no_letter (b ∷ c ∷ body) (simp e) clear)

body_first : (line : List ℕ) → 0 < length (body_of line) → get_or (body_of line) 0 0 ≡ get_or line 0 0
unfolding body_of
body_first line h = go (eqb (get_or line (length line - 1) 0) 10) h
  where
    go : (t : Bool) → 0 < length (cond t (take (length line - 1) line) line) → get_or (cond t (take (length line - 1) line) line) 0 0 ≡ get_or line 0 0
    go true h = get_or-take (length line - 1) line 0 0 (omega (arith, length-take (length line - 1) line))
    go false h = refl

pub column_line : (line : List ℕ) (entry : Entry) → entry_of line ≡ Ok entry → is_column entry ≡ is_column_line line
unfolding entry_of line_rule is_column_line
column_line line entry e =
    let body = body_of line in
    let t = taken_by (smallest (conditions body)) (line_rule body).entry entry e in
    let first = letter_first body t.0 in
    ap is_column (sym t.1) ∙ column_rule_lem (letter_of body) (split body) ∙ ap (λ (b : ℕ). eqb b 84) (first.0 ∙ body_first line first.1)
