-- The participant's table. "A participant's table is lent together with the length of each column: a list of 16-bit numbers, first ten lengths
-- (0 to 101), for stock of P, D, S, H, N, then residue in that order; then the cells in tenths, at most 30,000 each (else 6), ages from 0,
-- columns joined, no remainder. .. The empty list means no participant's table."
use Rattle.std.specs.Prelude.{◌+◌, ◌*◌, ◌&&◌, ◌||◌, ◌∷◌}
use Rattle.laws.specs.{ℕ, Bool, not, List, [], leb, eqb, length, each_at_most, sum_of}
use Rattle.refusals.specs.{Verdict, ◌⇒◌, smallest, Refusal}
use Rattle.schedules.specs.{cell_ceiling}
use Rattle.table_parts.specs.{column_count, lengths_of, cells_of}

abbrev pub longest_column : ℕ
longest_column = 101

abbrev pub longest_table : ℕ
longest_table = column_count + column_count * longest_column

-- ten lengths, as many cells as they say, and each within its bound
unfoldable pub has_columns : List ℕ → Bool
has_columns table =
    leb column_count (length table)
    && eqb (length (cells_of table)) (sum_of (lengths_of table))
    && each_at_most longest_column (lengths_of table)
    && each_at_most cell_ceiling (cells_of table)

unfoldable pub is_table : List ℕ → Bool
is_table table = eqb (length table) 0 || has_columns table

-- "6 table column, length .., order, cell or odd byte"
unfoldable pub judged : List ℕ → Verdict
judged table = smallest (not (is_table table) ⇒ Refusal.TableColumn ∷ [])
