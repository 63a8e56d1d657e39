-- What a line says: an entry, or the smallest number that refuses it.
use Rattle.std.specs.Prelude.{◌-◌, ◌∷◌}
use Rattle.laws.specs.{code, ℕ, Bool, true, not, cond, List, [], eqb, ltb, length, get_or, take}
use Rattle.text.specs.{comma, line_end, holds, split}
use Rattle.refusals.specs.{Verdict, Case, ◌⇒◌, smallest, Refusal}
use Rattle.line_entry.specs.{Parsed, Rule, parsed, open_rule, add_rule, clear_rule, plant_rule, file_rule, withdraw_rule, Act, Entry, on}
use Rattle.line_column.specs.{column_rule}

-- "a line ends with byte 10 (the last may lack it)": the line besides its end
unfoldable pub body_of : List ℕ → List ℕ
body_of line = cond (eqb (get_or line (length line - 1) 0) line_end) (take (length line - 1) line) line

-- its fields
abbrev pub fields_of : List ℕ → List (List ℕ)
fields_of line = split (body_of line)

abbrev pub longest : ℕ
longest = 1024

-- the first byte, where it is a field of its own; 0 is no letter
unfoldable pub letter_of : List ℕ → ℕ
letter_of [] = 0
letter_of (b ∷ []) = b
letter_of (b ∷ c ∷ bs) = cond (eqb c comma) b 0

-- whether the line's letter is T's
unfoldable pub is_column_line : List ℕ → Bool
is_column_line line = eqb (letter_of (body_of line)) (code "T")

-- "1 wrong letter": no entry is taken, and the one that stands there has no meaning
unfoldable pub no_rule : Rule
no_rule = record { cases = true ⇒ Refusal.Form ∷ []; entry = Entry.On (on 0 Act.Withdraw) }

-- each letter has its rule
unfoldable pub rule_of : ℕ → List (List ℕ) → Rule
rule_of letter fs =
    cond (eqb letter (code "T")) (column_rule fs)
    (cond (eqb letter (code "A")) (open_rule fs)
    (cond (eqb letter (code "S")) (add_rule fs)
    (cond (eqb letter (code "C")) (clear_rule fs)
    (cond (eqb letter (code "P")) (plant_rule fs)
    (cond (eqb letter (code "R")) (file_rule fs)
    (cond (eqb letter (code "W")) (withdraw_rule fs)
    no_rule))))))

-- the rule of a line besides its end
unfoldable pub line_rule : List ℕ → Rule
line_rule body = rule_of (letter_of body) (split body)

-- "1 .. byte 10 before a line's end, line over 1024 bytes besides its end", and what its letter asks
unfoldable pub conditions : List ℕ → List Case
conditions body = ltb longest (length body) ⇒ Refusal.Form ∷ holds line_end body ⇒ Refusal.Form ∷ (line_rule body).cases

unfoldable pub entry_of : List ℕ → Parsed
entry_of line = parsed (smallest (conditions (body_of line))) (line_rule (body_of line)).entry

-- a line as a T line: a letter other than T refuses it, and then what refuses any line
unfoldable pub as_column : List ℕ → Verdict
as_column line = let body = body_of line in smallest (not (eqb (letter_of body) (code "T")) ⇒ Refusal.Form ∷ conditions body)
