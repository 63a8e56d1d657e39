-- The column consulted, the look-up of a cell by age, and the decay of residue. `own` is the participant's table, `default` the cells of Schedule 6 as they are lent.
use Rattle.std.specs.Prelude.{◌-◌}
use Rattle.laws.specs.{code, ℕ, min, cond, List, [], eqb, ltb, length, get_or, take, drop}
use Rattle.units.specs.{Rate}
use Rattle.forest.specs.{Forest, letters_of}
use Rattle.schedules.specs.{Kind, Place, Column, listed, place_four, place_six}
use Rattle.table_parts.specs.{column_number, length_of}
use Rattle.table_lent.specs.{own_column}

abbrev pub kind_letter : Kind → ℕ
kind_letter Kind.Stock = code "G"
kind_letter Kind.Residue = code "R"

-- the participant's column, by the first letter of its type: "P serves all regions"; bare land's B has none
abbrev pub own_number : Kind → Forest → ℕ
own_number kind forest = column_number (kind_letter kind) (get_or (letters_of forest) 0 0)

-- a schedule's column, read off its cells
abbrev pub at_place : List ℕ → Place → Column
at_place cells place = listed place.first (take place.len (drop place.start cells))

-- "The column consulted is the participant's, or the default one where that length is 0 (002, 6.1)." The participant's are by "ages from 0".
-- Over Schedule 6 the default one is the type's column: `six_column`.
abbrev pub column_of : List ℕ → List ℕ → ℕ → Place → Column
column_of own default number place = cond (eqb (length_of own number) 0) (at_place default place) (listed 0 (own_column own number))

unfoldable pub consulted : List ℕ → List ℕ → Kind → Forest → Column
consulted own default kind forest = column_of own default (own_number kind forest) (place_six kind forest)

-- its first age, which the default's cells do not bear on
abbrev pub first_age : List ℕ → ℕ → Place → ℕ
first_age own number place = (column_of own [] number place).first

-- "Look-up: beyond the last age, the last cell; below the first listed age, 0." A column without cells "gives 0".
unfoldable pub cell_at : Column → ℕ → ℕ
cell_at column age =
    cond (ltb age column.first) 0
    (get_or column.cells (min (age - column.first) (length column.cells - 1)) 0)

-- the rate of post-1989 forest land
unfoldable pub rate_six : List ℕ → List ℕ → Kind → Forest → ℕ → Rate
rate_six own default kind forest age = record { 0 = cell_at (consulted own default kind forest) age }

-- the rate of pre-1990 forest land, by the cells of Schedule 4, where it is the type's column that is read: `four_column`
unfoldable pub rate_four : List ℕ → Forest → ℕ → Rate
rate_four cells forest age = record { 0 = cell_at (at_place cells (place_four forest)) age }

-- the tenths of a residue that are left some years after the clearing: "ten less the years gone, nought past ten" (document 02, item 5)
unfoldable pub share_after : ℕ → ℕ
share_after years = cond (ltb 10 years) 0 (10 - years)
