-- A participant's table as it is lent, and its columns.
use Rattle.std.specs.Prelude.{◌+◌}
use Rattle.laws.specs.{ℕ, cond, List, leb, length, get_or, take, drop, replicate, sum_of}
use Rattle.table_parts.specs.{column_count, lengths_of, length_of}

-- the cells of a column by its number; what is no column has none
unfoldable pub own_column : List ℕ → ℕ → List ℕ
own_column table number = take (length_of table number) (drop (column_count + sum_of (take number (lengths_of table))) table)

-- "A participant's table is lent together with the length of each column": of a list of less than ten numbers, ten of 0
unfoldable pub lent_lengths : List ℕ → List ℕ
lent_lengths table = cond (leb column_count (length table)) (lengths_of table) (replicate column_count 0)

-- "columns joined": a column's cells, out of the cells lent and the length of each column
unfoldable pub lent_column : List ℕ → List ℕ → ℕ → List ℕ
lent_column cells lengths number = take (get_or lengths number 0) (drop (sum_of (take number lengths)) cells)
