-- "T,kind,type,cells: .. It extends the table; refused (6) where its column or a later one already has cells." "33 T once an area stands."
use Rattle.laws.specs.{ℕ, List, leb}
use Rattle.refusals.specs.{Verdict, weighed, and_then, Refusal}
use Rattle.table.specs.{longest_table}
use Rattle.table_extend.specs.{begun, longer, extensible}
use Rattle.line_cells.specs.{tenths_all}
use Rattle.line_column.specs.{cells_of, column_of}
use Rattle.line.specs.{fields_of, as_column}

-- the number of the column that a T line names
unfoldable pub line_column : List ℕ → ℕ
line_column line = column_of (fields_of line)

-- the cells of a T line, in tenths
unfoldable pub line_cells : List ℕ → List ℕ
line_cells line = tenths_all (cells_of (fields_of line))

-- the table with the line's column: ten lengths and the cells
unfoldable pub longer_by : List ℕ → List ℕ → List ℕ
longer_by own line = longer (begun own) (line_column line) (line_cells line)

-- what refuses the line as a T line, at most 6; then 6 by the table; then 33 where areas stand; there is room for any table
unfoldable pub growable : List ℕ → ℕ → List ℕ → Verdict
growable own areas line =
    weighed (and_then (as_column line) (extensible (begun own) (line_column line) (line_cells line) longest_table)) (leb 1 areas) Refusal.TableAfterArea
