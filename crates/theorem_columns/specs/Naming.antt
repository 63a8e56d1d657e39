-- The kind and the type whose column a T line is. "kind G (stock) or R (residue); type P, D, S, H or N", where "P serves all regions".
use Rattle.std.specs.Prelude.{◌≡◌}
use Rattle.laws.specs.{ℕ, List, get_or}
use Rattle.forest.specs.{Forest, letters_of}
use Rattle.schedules.specs.{Kind}
use Rattle.line_column.specs.{kind_in, type_in}
use Rattle.line.specs.{fields_of}
use Rattle.rates.specs.{kind_letter}

-- the line's letters are those of the kind and of the type
pub record Names (line : List ℕ) (kind : Kind) (forest : Forest) : Type 0 where
  pub of_kind : kind_in (fields_of line) ≡ kind_letter kind
  pub of_type : type_in (fields_of line) ≡ get_or (letters_of forest) 0 0

-- some kind and type are named
pub record NamesSome (line : List ℕ) : Type 0 where
  pub kind : Kind
  pub forest : Forest
  pub names : Names line kind forest
