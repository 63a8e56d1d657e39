-- A table that a T line extends stays a table: the column had no cells, so the sum of the lengths grows by as many cells as come behind.
use Rattle.std.specs.Prelude.{Ok}
use Rattle.laws.proofs.{ℕ, ◌+◌, ◌≤◌, ◌<◌, true, ◌≡◌, sym, ap, ◌∙◌, List, ◌++◌, arith, length, get_or, set, take, drop, length-set, length-take, length-append, get_or-drop, leb-false, ltb-false, not-false}
use native.Mathlib.Nat.{add-zero}
use lib.Seq.{take_at, drop_at}
use Rattle.laws.specs.{each_at_most, sum_of}
use Rattle.laws.proofs.Lists.{ceiling_at, ceiling_set, ceiling_append, sum-set}
use Rattle.refusals.proofs.Laws.{ruled_out}
use Rattle.schedules.specs.{cell_ceiling}
use Rattle.table_parts.specs.{column_count, lengths_of, cells_of}
use Rattle.table.specs.{longest_column, is_table}
use Rattle.table.proofs.Columns.{Columns, columns_read, columns_table}
use Rattle.table_extend.specs.{is_free, longer, extensible}

module _ (table : List ℕ) (column : ℕ) (cells : List ℕ) where
  free_empty : is_free table column ≡ true → get_or (lengths_of table) column 0 ≡ 0
  unfolding is_free
  free_empty e =
      omega (arith, ceiling_at 0 (drop column (lengths_of table)) e 0, get_or-drop column (lengths_of table) 0 0, ap (λ (k : ℕ). get_or (lengths_of table) k 0) (add-zero column))

  longer_columns : Columns table → column < column_count → length cells ≤ longest_column → each_at_most cell_ceiling cells ≡ true → is_free table column ≡ true
      → Columns (longer table column cells)
  unfolding longer
  longer_columns k inside few low free =
      let lengths = set (lengths_of table) column (length cells) in
      let ten : length (lengths_of table) ≡ column_count = omega (arith, length-take column_count table, k.ten) in
      let first : length lengths ≡ column_count = length-set (lengths_of table) column (length cells) ∙ ten in
      let front : take column_count (lengths ++ (cells_of table ++ cells)) ≡ lengths = take_at lengths (cells_of table ++ cells) column_count first in
      let behind : drop column_count (lengths ++ (cells_of table ++ cells)) ≡ cells_of table ++ cells =
      drop_at lengths (cells_of table ++ cells) column_count first in
      record {
        ten = omega (arith, first, length-append lengths (cells_of table ++ cells));
        filled =
            ap length behind
            ∙ length-append (cells_of table) cells
            ∙ ap (λ (n : ℕ). n + length cells) k.filled
            ∙ sym (sum-set (lengths_of table) column (length cells) (omega arith) (free_empty free))
            ∙ sym (ap sum_of front);
        short = ap (each_at_most longest_column) front ∙ ceiling_set longest_column (lengths_of table) column (length cells) few k.short;
        low = ap (each_at_most cell_ceiling) behind ∙ ceiling_append cell_ceiling (cells_of table) cells k.low low;
      }

  pub extended_table : (room : ℕ) → extensible table column cells room ≡ Ok tt → is_table (longer table column cells) ≡ true
  unfolding extensible
  extended_table room e =
      let n = ruled_out _ e in
      let k = columns_read table (not-false _ (n 0)) in
      let inside = leb-false _ _ (n 1) in
      let few = ltb-false _ _ (n 3) in
      let low = not-false _ (n 4) in
      let free = not-false _ (n 5) in
      columns_table (longer table column cells) (longer_columns k inside few low free)
