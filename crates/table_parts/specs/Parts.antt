-- The parts of a participant's table. "A participant's table is lent together with the length of each column: a list of 16-bit numbers, first ten
-- lengths .., for stock of P, D, S, H, N, then residue in that order; then the cells in tenths, .. columns joined, no remainder."
use Rattle.laws.specs.{ℕ, List, get_or, take, drop}

abbrev pub column_count : ℕ
column_count = 10

abbrev pub lengths_of : List ℕ → List ℕ
lengths_of table = take column_count table

abbrev pub cells_of : List ℕ → List ℕ
cells_of table = drop column_count table

-- the length of a column by its number; what is no column has none
unfoldable pub length_of : List ℕ → ℕ → ℕ
length_of table number = get_or (lengths_of table) number 0
