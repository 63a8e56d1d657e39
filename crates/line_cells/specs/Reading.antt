-- "1 to 101 cells, each a number with at most one decimal, at most 3000": cells read, each from its own field.
use Rattle.laws.specs.{ℕ, Bool, List, map, some}
use Rattle.schedules.specs.{cell_ceiling}
use Rattle.text_number.specs.{Number}
use Rattle.text_value.specs.{malformed, outside, fitted}
use Rattle.text_decimal.specs.{cell_in}
use Rattle.line_cells.specs.declared.Cells.{Cells}

-- some cell, read, is of a kind
abbrev pub some_cell : (Number → Bool) → List (List ℕ) → Bool
some_cell kind fs = some (λ f. kind (cell_in f)) fs

-- "at most 3000"
abbrev pub bad_cell : Number → Bool
bad_cell n = outside 0 cell_ceiling n

-- a cell's tenths; a field that is no cell counts as 0
abbrev pub tenths_in : List ℕ → ℕ
tenths_in f = fitted 65535 (cell_in f)

unfoldable pub tenths_all : List (List ℕ) → List ℕ
tenths_all fs = map tenths_in fs

-- what a scan of cells finds
unfoldable pub cells_found : List (List ℕ) → Cells
cells_found fs = record { malformed = some_cell malformed fs; over = some_cell bad_cell fs }
