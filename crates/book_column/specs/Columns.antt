-- The table that a T line leaves in a book, where so many areas stand: the first `count` of an array's numbers.
use Rattle.std.specs.Prelude.{◌≤◌, ◌≡◌}
use Rattle.laws.specs.{ℕ, List, length, take}
use Rattle.refusals.specs.{buffer_after}
use Rattle.table.specs.{longest_table}
use Rattle.table_grow.specs.{longer_by, growable}
use Rattle.book_listing.specs.{if_accepted}

-- the longer table in front of what stood behind, and its length
unfoldable pub column_numbers : List ℕ → ℕ → ℕ → List ℕ → List ℕ
column_numbers numbers count areas line = let own = take count numbers in buffer_after (growable own areas line) (longer_by own line) numbers

unfoldable pub column_count : List ℕ → ℕ → ℕ → List ℕ → ℕ
column_count numbers count areas line = let own = take count numbers in if_accepted (growable own areas line) (length (longer_by own line)) count

-- a table in front of an array's numbers
pub record Fronts (numbers : List ℕ) (count : ℕ) (table : List ℕ) : Type 0 where
  pub front : take count numbers ≡ table
  pub fits : count ≤ longest_table
  pub whole : length numbers ≡ longest_table
