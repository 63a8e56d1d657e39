-- The order of a participant's columns: "for stock of P, D, S, H, N, then residue in that order".
use Rattle.std.specs.Prelude.{◌+◌, ◌*◌, ◌∷◌, ◌++◌}
use Rattle.laws.specs.{code, ℕ, List, []}
use Rattle.text.specs.{width_to}

-- "kind G (stock) or R (residue)"
abbrev pub kind_letters : List ℕ
kind_letters = code "G" ∷ code "R" ∷ []

-- "type P, D, S, H or N"
abbrev pub type_letters : List ℕ
type_letters = code "P" ∷ code "D" ∷ code "S" ∷ code "H" ∷ code "N" ∷ []

-- a column's number, by the letters of its kind and its type: the type's first place among the ten, and five more for residue; 10 and above are none
unfoldable pub column_number : ℕ → ℕ → ℕ
column_number kind type = width_to kind kind_letters * 5 + width_to type (type_letters ++ type_letters)
