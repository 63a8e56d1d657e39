-- Columns of cells by age, and their places where they are joined.
use Rattle.std.specs.Prelude.{◌+◌, ◌∷◌, ◌++◌}
use Rattle.laws.specs.{ℕ, List, [], length}
use Rattle.schedules.specs.declared.Place.{Place}

-- the first listed age, and the cells from that age on
pub record Column : Type 0 where
  pub first : ℕ
  pub cells : List ℕ

abbrev pub listed : ℕ → List ℕ → Column
listed first cells = record { first = first; cells = cells }

abbrev pub no_column : Column
no_column = listed 0 []

-- "column by column"
unfoldable pub joined : List Column → List ℕ
joined [] = []
joined (c ∷ cs) = c.cells ++ joined cs

abbrev pub no_place : Place
no_place = record { start = 0; len = 0; first = 0 }

-- each column's place among the joined cells, the first of them standing at `at`
unfoldable pub places_from : ℕ → List Column → List Place
places_from at [] = []
places_from at (c ∷ cs) = record { start = at; len = length c.cells; first = c.first } ∷ places_from (at + length c.cells) cs
