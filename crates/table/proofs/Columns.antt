-- The tests of a table with its columns, read as facts and made from them; ten columns of at most 101 cells bound its length.
use Rattle.laws.proofs.{ℕ, ◌≤◌, Bool, true, false, ◌&&◌, ◌||◌, ◌≡◌, refl, List, arith, le-leb, eq-eqb, leb-true, eqb-true, eqb, length, length-take, length-drop}
use Rattle.laws.specs.{each_at_most, sum_of}
use Rattle.laws.proofs.Lists.{and_left, and_right, both, sum_at_most}
use Rattle.schedules.specs.{cell_ceiling}
use Rattle.table_parts.specs.{column_count, lengths_of, cells_of}
use Rattle.table.specs.{longest_column, longest_table, has_columns, is_table}

pub record Columns (table : List ℕ) : Type 0 where
  pub ten : column_count ≤ length table
  pub filled : length (cells_of table) ≡ sum_of (lengths_of table)
  pub short : each_at_most longest_column (lengths_of table) ≡ true
  pub low : each_at_most cell_ceiling (cells_of table) ≡ true

four_hold : (a b c d : Bool) → a && b && c && d ≡ true → (a ≡ true) × (b ≡ true) × (c ≡ true) × (d ≡ true)
four_hold a b c d e =
    let abc = and_left (a && b && c) d e in
    let ab = and_left (a && b) c abc in
    (and_left a b ab, and_right a b ab, and_right (a && b) c abc, and_right (a && b && c) d e)

module _ (table : List ℕ) where
  pub columns_read : has_columns table ≡ true → Columns table
  unfolding has_columns
  columns_read e =
      let t = four_hold _ _ _ _ e in
      record { ten = leb-true _ _ t.0; filled = eqb-true _ _ t.1; short = t.2; low = t.3 }

  pub columns_have : Columns table → has_columns table ≡ true
  unfolding has_columns
  columns_have k = both _ _ (both _ _ (both _ _ (le-leb _ _ k.ten) (eq-eqb _ _ k.filled)) k.short) k.low

  -- a list with its columns is a table
  pub columns_table : Columns table → is_table table ≡ true
  unfolding is_table
  columns_table k = go (eqb (length table) 0) (columns_have k)
    where
      go : (t : Bool) → has_columns table ≡ true → (t || has_columns table) ≡ true
      go true e = refl
      go false e = e

  columns_fit : Columns table → length table ≤ longest_table
  columns_fit k =
      omega (arith, sum_at_most longest_column (lengths_of table) k.short, k.filled, k.ten, length-take column_count table, length-drop column_count table)

  pub table_fits : is_table table ≡ true → length table ≤ longest_table
  unfolding is_table
  table_fits e = go (eqb (length table) 0) refl e
    where
      go : (t : Bool) → eqb (length table) 0 ≡ t → (t || has_columns table) ≡ true → length table ≤ longest_table
      go true z e = omega (arith, eqb-true (length table) 0 z)
      go false z e = columns_fit (columns_read e)
