-- The places of a statement's areas in its bytes.
use Rattle.std.specs.Prelude.{◌+◌, ◌∷◌, Some, None, Option}
use Rattle.laws.specs.{ℕ, zero, suc, List, [], length, code}
use Rattle.text.specs.{line_end}
use Rattle.holding.specs.{Area, most_areas}
use Rattle.statement_cursor.specs.{NumberField, number_at, start_at}
use Rattle.statement_parse.specs.{area_line_at}

-- items that are read one after the other, k of them from a place on, and the place after the last
unfoldable pub items_read : {A : Type 0} → (ℕ → A) → (ℕ → ℕ) → ℕ → ℕ → List A
items_read item next zero at = []
items_read item next (suc k) at = item at ∷ items_read item next k (next at)

unfoldable pub place_after : (ℕ → ℕ) → ℕ → ℕ → ℕ
place_after next zero at = at
place_after next (suc k) at = place_after next k (next at)

-- "H,areas": how many areas there are, and the place after that line
unfoldable pub head_at : List ℕ → NumberField
head_at s = number_at s (start_at s 0 (code "H")) line_end most_areas

-- the area whose lines start at a place, and the place after them
abbrev pub area_in : List ℕ → ℕ → Area
area_in s at = (area_line_at s at).area

abbrev pub after_area : List ℕ → ℕ → ℕ
after_area s at = (area_line_at s at).next

-- the place after the first k areas
unfoldable pub place_of : List ℕ → ℕ → ℕ
place_of s k = place_after (after_area s) k (head_at s).next

-- where the lines of an area that was looked for start and end: the end of the bytes, where it is not there
unfoldable pub start_of : List ℕ → Option ℕ → ℕ
start_of s (Some k) = place_of s k
start_of s None = length s

unfoldable pub end_of : List ℕ → Option ℕ → ℕ
end_of s (Some k) = place_of s (k + 1)
end_of s None = length s
