-- What refuses a sheet before any of its rows is taken: "41 quoting or a row end broken, checked first; 42 a row without five fields or another first row".
use Rattle.std.specs.Prelude.{◌&&◌, ◌∷◌}
use Rattle.laws.specs.{code, ℕ, Bool, true, false, not, List, [], eqb, length, every}
use Rattle.refusals.specs.{Refusal, Verdict, ◌⇒◌, smallest}
use Rattle.sheet_read.specs.{Row, sound, rows_of}

-- "one heading row of the names area, sub, hectares, type, planted in that order"
abbrev pub heading_row : Row
heading_row =
    (code "a" ∷ code "r" ∷ code "e" ∷ code "a" ∷ [])
    ∷ (code "s" ∷ code "u" ∷ code "b" ∷ [])
    ∷ (code "h" ∷ code "e" ∷ code "c" ∷ code "t" ∷ code "a" ∷ code "r" ∷ code "e" ∷ code "s" ∷ [])
    ∷ (code "t" ∷ code "y" ∷ code "p" ∷ code "e" ∷ [])
    ∷ (code "p" ∷ code "l" ∷ code "a" ∷ code "n" ∷ code "t" ∷ code "e" ∷ code "d" ∷ [])
    ∷ []

-- "then rows of those five fields"
abbrev pub five_fields : Row → Bool
five_fields row = eqb (length row) (length heading_row)

-- lists whose elements are found the same, one by one
unfoldable pub same_by : {A : Type 0} → (A → A → Bool) → List A → List A → Bool
same_by same [] [] = true
same_by same [] (b ∷ m) = false
same_by same (a ∷ l) [] = false
same_by same (a ∷ l) (b ∷ m) = same a b && same_by same l m

abbrev pub same_bytes : List ℕ → List ℕ → Bool
same_bytes = same_by eqb

abbrev pub same_row : Row → Row → Bool
same_row = same_by same_bytes

-- the heading, and then rows of five fields; a sheet without a row has no heading
unfoldable pub regular : List Row → Bool
regular [] = false
regular (row ∷ rows) = same_row row heading_row && every five_fields rows

-- the smaller number first, and each over the whole sheet
unfoldable pub sheet_verdict : List ℕ → Verdict
sheet_verdict sheet = smallest (not (sound sheet) ⇒ Refusal.SheetForm ∷ not (regular (rows_of sheet)) ⇒ Refusal.SheetRow ∷ [])
