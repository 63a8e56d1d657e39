-- A book listed in parts, as `book` prints it.
use Rattle.laws.specs.{ℕ, List, [], length}
use Rattle.std.specs.Prelude.{◌<◌, ◌≤◌, ◌∷◌, ◌++◌}
use Rattle.book_reached.specs.{Reached}
use Rattle.book_run.specs.{Part}
use Rattle.book_parts.specs.{part_of, ComesTo}

-- the first from a place on, each further one from where the one before it came to, the last where no byte is left
abbrev pub InParts : List ℕ → ℕ → Reached → Part → List Part → Type 0
InParts book next reached part [] = ComesTo book next reached part × (length book ≤ part.next)
InParts book next reached part (further ∷ more) =
    ComesTo book next reached part × (part.next < length book) × InParts book part.next part.reached further more

-- what they list
abbrev pub joined_parts : List ℕ → ℕ → Reached → Part → List Part → List ℕ
joined_parts book next reached part [] = part_of book next reached
joined_parts book next reached part (further ∷ more) = part_of book next reached ++ joined_parts book part.next part.reached further more
