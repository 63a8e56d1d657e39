-- "Default tables: Schedule 6 (post-1989: stock and residue columns) and Schedule 4 (pre-1990) of Appendix 2."
use Rattle.std.specs.Prelude.{◌∷◌, ◌++◌}
use Rattle.laws.specs.{ℕ, List, length, get_or}
use Rattle.forest.specs.{Forest, order_of}
use Rattle.schedules.specs.declared.Kind.{Kind}
use Rattle.schedules.specs.declared.Place.{Place}
use Rattle.schedules.specs.Columns.{Column, no_column, joined, no_place, places_from}
use Rattle.schedules.specs.Cells.{stock4, stock6, residue6}

-- "The default cells are at most 30,000 tenths each"
abbrev pub cell_ceiling : ℕ
cell_ceiling = 30000

-- the cells of the two schedules, column after column
unfoldable pub schedule4 : List ℕ
schedule4 = joined stock4

unfoldable pub schedule6 : List ℕ
schedule6 = joined stock6 ++ joined residue6

-- the column of a type; bare land has none
abbrev pub column_in : List Column → Forest → Column
column_in columns forest = get_or (no_column ∷ columns) (order_of forest) no_column

unfoldable pub column_four : Forest → Column
column_four forest = column_in stock4 forest

unfoldable pub column_six : Kind → Forest → Column
column_six Kind.Stock forest = column_in stock6 forest
column_six Kind.Residue forest = column_in residue6 forest

-- where that column stands in the schedule's cells
abbrev pub place_in : List Place → Forest → Place
place_in places forest = get_or (no_place ∷ places) (order_of forest) no_place

unfoldable pub place_four : Forest → Place
place_four forest = place_in (places_from 0 stock4) forest

unfoldable pub place_six : Kind → Forest → Place
place_six Kind.Stock forest = place_in (places_from 0 stock6) forest
place_six Kind.Residue forest = place_in (places_from (length (joined stock6)) residue6) forest
