-- Where the fields of a line stand: how many there are, and where each of the first six starts.
use Rattle.std.specs.Prelude.{◌+◌, ◌-◌, ◌∷◌}
use Rattle.laws.specs.{ℕ, cond, List, [], ltb, length, get_or, take, drop, replicate, sets}
use Rattle.text_field.specs.declared.Places.{Places}

-- where fields start that are parted by one byte each, the first of them at a given place, and where one behind the last would
unfoldable pub starts_from : ℕ → List (List ℕ) → List ℕ
starts_from start [] = start ∷ []
starts_from start (f ∷ fs) = start ∷ starts_from (start + length f + 1) fs

-- as many of them as seven places hold, 0 in the others
unfoldable pub places_of : List (List ℕ) → Places
places_of fs = record { count = length fs; starts = sets (replicate 7 0) 0 (starts_from 0 fs) }

-- from a start to one byte before the next, where both lie in order in the line
unfoldable pub between : ℕ → ℕ → List ℕ → List ℕ
between start next line = cond (ltb start next) (cond (ltb (length line) (next - 1)) [] (take (next - 1 - start) (drop start line))) []

unfoldable pub part : List ℕ → Places → ℕ → List ℕ
part line places k = between (get_or places.starts k 0) (get_or places.starts (k + 1) 0) line
