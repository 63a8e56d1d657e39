-- A column that a T entry adds. "It extends the table; refused (6) where its column or a later one already has cells."
use Rattle.std.specs.Prelude.{◌+◌, ◌∷◌, ◌++◌}
use Rattle.laws.specs.{ℕ, Bool, not, cond, List, [], eqb, leb, ltb, length, drop, set, replicate, each_at_most}
use Rattle.refusals.specs.{Verdict, ◌⇒◌, smallest, Refusal}
use Rattle.schedules.specs.{cell_ceiling}
use Rattle.table_parts.specs.{column_count, lengths_of, cells_of}
use Rattle.table.specs.{longest_column, has_columns}

-- no table yet is a table whose ten columns have no cells
unfoldable pub begun : List ℕ → List ℕ
begun table = cond (eqb (length table) 0) (replicate column_count 0) table

-- neither the column nor a later one has cells
unfoldable pub is_free : List ℕ → ℕ → Bool
is_free table column = each_at_most 0 (drop column (lengths_of table))

-- the column's length is entered, and its cells come behind those that stand
unfoldable pub longer : List ℕ → ℕ → List ℕ → List ℕ
longer table column cells = set (lengths_of table) column (length cells) ++ (cells_of table ++ cells)

-- "1 to 101 cells, each .. at most 3000", on a table that keeps its own rules; "8 output shorter than needed"
unfoldable pub extensible : List ℕ → ℕ → List ℕ → ℕ → Verdict
extensible table column cells room =
    smallest (not (has_columns table) ⇒ Refusal.TableColumn
    ∷ leb column_count column ⇒ Refusal.TableColumn
    ∷ eqb (length cells) 0 ⇒ Refusal.TableColumn
    ∷ ltb longest_column (length cells) ⇒ Refusal.TableColumn
    ∷ not (each_at_most cell_ceiling cells) ⇒ Refusal.TableColumn
    ∷ not (is_free table column) ⇒ Refusal.TableColumn
    ∷ ltb room (length table + length cells) ⇒ Refusal.OutputShort
    ∷ [])
