-- The columns of a longer table. The new column's length is entered, and the columns behind it have none: so its cells start where the old ones end,
-- and every other column has its length and its cells as before.
use Rattle.laws.proofs.{ℕ, zero, suc, ◌+◌, ◌-◌, ◌≤◌, ◌<◌, true, ◌≡◌, sym, ap, ◌∙◌, List, [], ◌∷◌, ◌++◌, ⊎_elim, arith, length, get_or, set, take, drop, length-set, length-take, length-drop, get_or-drop, drop-drop, take_all}
use lib.Seq.{take_at, drop_at, take-set-le, get_or-set_same, get_or-set_other, take-append-le, drop-append-le}
use Rattle.laws.specs.{sum_of}
use Rattle.laws.proofs.Lists.{sum_at_most, sum_goes_on, ceiling_at}
use Rattle.laws.proofs.Order.{below_or_not}
use Rattle.table_parts.specs.{column_count, lengths_of, cells_of, length_of}
use Rattle.table.proofs.Columns.{Columns}
use Rattle.table_extend.specs.{is_free, longer}
use Rattle.table_lent.specs.{own_column}

-- a sum is that of a front and of what is behind it
sum_parts : (n : ℕ) (xs : List ℕ) → sum_of (take n xs) + sum_of (drop n xs) ≡ sum_of xs
unfolding sum_of
sum_parts zero xs = omega arith
sum_parts (suc n) [] = omega arith
sum_parts (suc n) (x ∷ xs) = omega (arith, sum_parts n xs)

module _ (table : List ℕ) (column : ℕ) (cells : List ℕ) (k : Columns table) (inside : column < column_count) (free : is_free table column ≡ true) where
  abbrev lengths : List ℕ
  lengths = lengths_of table

  abbrev after : List ℕ
  after = longer table column cells

  ten : length lengths ≡ column_count
  ten = omega (arith, length-take column_count table, k.ten)

  lengths_after : lengths_of after ≡ set lengths column (length cells)
  unfolding longer
  lengths_after = take_at (set lengths column (length cells)) (cells_of table ++ cells) column_count (length-set lengths column (length cells) ∙ ten)

  cells-after : cells_of after ≡ cells_of table ++ cells
  unfolding longer
  cells-after = drop_at (set lengths column (length cells)) (cells_of table ++ cells) column_count (length-set lengths column (length cells) ∙ ten)

  -- the columns before it have all the cells that stand
  all_before : sum_of (take column lengths) ≡ length (cells_of table)
  unfolding is_free
  all_before = omega (arith, sum_parts column lengths, sum_at_most 0 (drop column lengths) free, k.filled)

  pub new_length : length_of after column ≡ length cells
  unfolding length_of
  new_length = ap (λ (l : List ℕ). get_or l column 0) lengths_after ∙ get_or-set_same lengths column (length cells) 0 (omega (arith, ten))

  pub new_cells : own_column after column ≡ cells
  unfolding own_column
  new_cells =
      let front : sum_of (take column (lengths_of after)) ≡ length (cells_of table) =
      ap (λ (l : List ℕ). sum_of (take column l)) lengths_after
      ∙ ap sum_of (take-set-le column lengths column (length cells) (omega arith))
      ∙ all_before in
      ap (take (length_of after column))
      (sym (drop-drop (sum_of (take column (lengths_of after))) column_count after)
      ∙ ap (drop (sum_of (take column (lengths_of after)))) cells-after
      ∙ drop_at (cells_of table) cells (sum_of (take column (lengths_of after))) (sym front))
      ∙ take_all (length_of after column) cells (omega (arith, new_length))

  -- another column
  module _ (number : ℕ) (other : number ≡ column → ⊥) where
    pub other_length : length_of after number ≡ length_of table number
    unfolding length_of
    other_length = ap (λ (l : List ℕ). get_or l number 0) lengths_after ∙ get_or-set_other lengths column number (length cells) 0 other

    -- one that has cells comes before the new one
    is_before : (length_of table number ≡ 0 → ⊥) → number < column
    unfolding length_of is_free
    is_before some = ⊎_elim (λ h. h) (λ h. absurd (some (behind h))) (below_or_not number column)
      where
        behind : column ≤ number → get_or lengths number 0 ≡ 0
        behind h =
            let at : column + (number - column) ≡ number = omega arith in
            omega (arith, ceiling_at 0 (drop column lengths) free (number - column), get_or-drop column lengths (number - column) 0, ap (λ (i : ℕ). get_or lengths i 0) at)

    -- its cells are among those that stand
    held : number < column → sum_of (take number lengths) + length_of table number ≤ length (cells_of table)
    unfolding length_of
    held low = omega (arith, sum_parts number lengths, sum_goes_on lengths number (omega (arith, ten)), k.filled)

    pub other_cells : (length_of table number ≡ 0 → ⊥) → own_column after number ≡ own_column table number
    unfolding own_column
    other_cells some =
        let low = is_before some in
        let start = sum_of (take number lengths) in
        let size = length_of table number in
        let same : sum_of (take number (lengths_of after)) ≡ start =
        ap (λ (l : List ℕ). sum_of (take number l)) lengths_after ∙ ap sum_of (take-set-le number lengths column (length cells) (omega arith)) in
        let within : start + size ≤ length (cells_of table) = held low in
        ap (λ (n : ℕ). take n (drop (column_count + sum_of (take number (lengths_of after))) after)) other_length
        ∙ ap (take size)
        (sym (drop-drop (sum_of (take number (lengths_of after))) column_count after)
        ∙ ap (λ (l : List ℕ). drop (sum_of (take number (lengths_of after))) l) cells-after
        ∙ ap (λ (n : ℕ). drop n (cells_of table ++ cells)) same
        ∙ drop-append-le start (cells_of table) cells (omega (arith, within)))
        ∙ take-append-le size (drop start (cells_of table)) cells (omega (arith, within, length-drop start (cells_of table)))
        ∙ ap (take size) (drop-drop start column_count table)
