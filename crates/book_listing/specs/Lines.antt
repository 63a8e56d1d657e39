-- A book's lines: "a line ends with byte 10 (the last may lack it)".
use Rattle.std.specs.Prelude.{◌∷◌}
use Rattle.laws.specs.{ℕ, cond, List, [], eqb}
use Rattle.text.specs.{line_end, extend}

-- each without its byte 10; a byte 10 at the book's end adds no line
unfoldable pub lines_of : List ℕ → List (List ℕ)
lines_of [] = []
lines_of (b ∷ bs) = cond (eqb b line_end) ([] ∷ lines_of bs) (extend b (lines_of bs))
