-- No rate is over 30,000 tenths: a cell is one of its column, and a column is a part of a table that keeps the ceiling.
use Rattle.laws.proofs.{ℕ, ◌-◌, ◌≤◌, min, ◌≡◌, refl, Bool, true, false, cond, ◌&&◌, ◌||◌, List, arith, eqb, leb, ltb, eqb-true, length, get_or, take, drop, drop_of_length-le, drop-drop}
use Rattle.laws.specs.{each_at_most, sum_of}
use Rattle.laws.proofs.Lists.{and_right, ceiling_at, ceiling_take, ceiling_drop}
use Rattle.forest.specs.{Forest}
use Rattle.schedules.specs.{Kind, Place, Column, listed, cell_ceiling, schedule4, schedule6, place_four, place_six}
use Rattle.schedules.proofs.Ceiling.{four_ceiling, six_ceiling}
use Rattle.table_parts.specs.{column_count, lengths_of, cells_of, length_of}
use Rattle.table.specs.{longest_column, has_columns, is_table}
use Rattle.table_lent.specs.{own_column}
use Rattle.rates.specs.{own_number, at_place, consulted, cell_at, rate_six, rate_four}

-- a column that keeps the ceiling
abbrev Kept : Column → Type 0
Kept column = each_at_most cell_ceiling column.cells ≡ true

cell_kept : (column : Column) (age : ℕ) → Kept column → cell_at column age ≤ cell_ceiling
unfolding cell_at
cell_kept column age h = go (ltb age column.first)
  where
    cell : ℕ
    cell = get_or column.cells (min (age - column.first) (length column.cells - 1)) 0

    go : (t : Bool) → cond t 0 cell ≤ cell_ceiling
    go true = omega arith
    go false = ceiling_at cell_ceiling column.cells h (min (age - column.first) (length column.cells - 1))

place_kept : (cells : List ℕ) (p : Place) → each_at_most cell_ceiling cells ≡ true → Kept (at_place cells p)
place_kept cells p h = ceiling_take cell_ceiling p.len (drop p.start cells) (ceiling_drop cell_ceiling p.start cells h)

-- the cells of a table, which stand behind its lengths
table-cells : (own : List ℕ) → is_table own ≡ true → each_at_most cell_ceiling (cells_of own) ≡ true
unfolding is_table has_columns each_at_most
table-cells own h = go (eqb (length own) 0) refl h
  where
    go : (t : Bool) → eqb (length own) 0 ≡ t → t || has_columns own ≡ true → each_at_most cell_ceiling (cells_of own) ≡ true
    go true e k = let empty : length own ≡ 0 = eqb-true _ _ e in rw (drop_of_length-le own {i = 10} (omega arith))
    go false e k =
        and_right
        (leb column_count (length own) && eqb (length (cells_of own)) (sum_of (lengths_of own)) && each_at_most longest_column (lengths_of own))
        (each_at_most cell_ceiling (cells_of own)) k

own-kept : (own : List ℕ) (number : ℕ) → is_table own ≡ true → Kept (listed 0 (own_column own number))
unfolding own_column
own-kept own number h =
    ceiling_take cell_ceiling (length_of own number) _
    (rw (← drop-drop (sum_of (take number (lengths_of own))) 10 own) (ceiling_drop cell_ceiling (sum_of (take number (lengths_of own))) (cells_of own) (table-cells own h)))

consulted-kept : (own : List ℕ) (kind : Kind) (forest : Forest) → is_table own ≡ true → Kept (consulted own schedule6 kind forest)
unfolding consulted
consulted-kept own kind forest h = go (eqb (length_of own (own_number kind forest)) 0)
  where
    go : (t : Bool) → Kept (cond t (at_place schedule6 (place_six kind forest)) (listed 0 (own_column own (own_number kind forest))))
    go true = place_kept schedule6 (place_six kind forest) six_ceiling
    go false = own-kept own (own_number kind forest) h

pub six_at_most : (own : List ℕ) (kind : Kind) (forest : Forest) (age : ℕ) → is_table own ≡ true → (rate_six own schedule6 kind forest age).0 ≤ cell_ceiling
unfolding rate_six
six_at_most own kind forest age h = cell_kept (consulted own schedule6 kind forest) age (consulted-kept own kind forest h)

pub four_at_most : (forest : Forest) (age : ℕ) → (rate_four schedule4 forest age).0 ≤ cell_ceiling
unfolding rate_four
four_at_most forest age = cell_kept (at_place schedule4 (place_four forest)) age (place_kept schedule4 (place_four forest) four_ceiling)
