-- A lent table: its lengths are the first ten numbers or ten of 0, and the column that its parts give is the list's own.
use Rattle.laws.proofs.{ℕ, ◌+◌, ◌<◌, ◌≤◌, ◌≡◌, sym, ap, ◌∙◌, List, [], ◌⊎◌, inl, inr, arith, le-leb, lt-leb, length, get_or, take, replicate, drop_of_length-le, drop-drop}
use lib.ListN.{get_or-eq_default}
use Rattle.laws.specs.{sum_of}
use Rattle.laws.proofs.Order.{below_or_not}
use Rattle.table_parts.specs.{cells_of, length_of}
use Rattle.table_parts.proofs.Parts.{part_past}
use Rattle.table_lent.specs.{own_column, lent_lengths, lent_column}

module _ (table : List ℕ) where
  pub no_lengths : length table < 10 → replicate 10 0 ≡ lent_lengths table
  unfolding lent_lengths
  no_lengths h = simp (lt-leb 10 (length table) h)

  pub ten_lengths : 10 ≤ length table → take 10 table ≡ lent_lengths table
  unfolding lent_lengths
  ten_lengths h = simp (le-leb 10 (length table) h)

  no_cells : length table < 10 → [] ≡ cells_of table
  no_cells h = sym (drop_of_length-le table {i = 10} (omega arith))

  short-table : (number : ℕ) → length table < 10 → [] ≡ own_column table number
  unfolding own_column
  short-table number h = part_past table (10 + sum_of (take number (take 10 table))) (length_of table number) (omega arith)

  -- the column is the same, whether its place is counted from the table's start or from the cells'
  pub lent_column_lem : (number : ℕ) → lent_column (cells_of table) (lent_lengths table) number ≡ own_column table number
  unfolding lent_column own_column length_of
  lent_column_lem number = go (below_or_not (length table) 10)
    where
      go : (length table < 10) ⊎ (10 ≤ length table) → lent_column (cells_of table) (lent_lengths table) number ≡ own_column table number
      go (inl h) = rw (← no_cells h) (sym (part_past [] (sum_of (take number (lent_lengths table))) (get_or (lent_lengths table) number 0) (omega arith)) ∙ short-table number h)
      go (inr h) = rw (← ten_lengths h) (ap (take (get_or (take 10 table) number 0)) (drop-drop (sum_of (take number (take 10 table))) 10 table))

-- past ten lengths there is no column
pub past_lengths : (cells lengths : List ℕ) (number : ℕ) → length lengths ≡ 10 → 10 ≤ number → [] ≡ lent_column cells lengths number
unfolding lent_column
past_lengths cells lengths number e h = rw (get_or-eq_default lengths 0 {n = number} (omega arith))
