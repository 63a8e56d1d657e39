-- Cells: a turn of the scan adds a cell to what was judged and kept.
use Rattle.laws.proofs.{ℕ, ◌+◌, ◌-◌, ◌≤◌, ◌<◌, ◌≡◌, refl, Bool, true, false, ◌||◌, List, add-one, length, length-map, take, drop, set, sets}
use Rattle.laws.specs.{some}
use Rattle.text.specs.{comma, width_to, split}
use Rattle.text.proofs.Fields.{field_last, field-comma}
use Rattle.text_number.specs.{Number}
use Rattle.text_value.specs.{fitted}
use Rattle.text_decimal.specs.{cell_in}
use Rattle.line_cells.specs.{some_cell, tenths_in, tenths_all}

module _ (s : List ℕ) (start end : ℕ) (e : end ≡ start + width_to comma (drop start s)) (h : start ≤ length s) (cell : Number)
    (read : cell ≡ cell_in (take (end - start) (drop start s))) where
  module _ (kind : Number → Bool) (found : Bool) (b : Bool) (q : b ≡ kind cell) where
    pub judge_next : end < length s → (found || b) || some_cell kind (split (drop (end + 1) s)) ≡ found || some_cell kind (split (drop start s))
    unfolding some
    judge_next l = go found
      where
        go : (x : Bool) → (x || b) || some_cell kind (split (drop (end + 1) s)) ≡ x || some_cell kind (split (drop start s))
        go true = refl
        go false = rw (field-comma s start end e h l, q, read)

    pub judge_last : length s ≤ end → end ≤ length s → found || b ≡ found || some_cell kind (split (drop start s))
    unfolding some
    judge_last l u = go found
      where
        none : (x : Bool) → x ≡ x || false
        none true = refl
        none false = refl

        go : (x : Bool) → x || b ≡ x || some_cell kind (split (drop start s))
        go true = refl
        go false = rw (field_last s start end e h l u, q, read) (none _)

  module _ (cells kept : List ℕ) (k tenths : ℕ) (q : kept ≡ set cells k tenths) (t : tenths ≡ fitted 65535 cell) where
    pub keep-next : end < length s → sets kept (k + 1) (tenths_all (split (drop (end + 1) s))) ≡ sets cells k (tenths_all (split (drop start s)))
    unfolding tenths_all
    keep-next l = rw (field-comma s start end e h l, q, t, read, add-one)

    pub keep_last : length s ≤ end → end ≤ length s → kept ≡ sets cells k (tenths_all (split (drop start s)))
    unfolding tenths_all
    keep_last l u = rw (field_last s start end e h l u, q, t, read)

pub cells_many : (fs : List (List ℕ)) → length (tenths_all fs) ≡ length fs
unfolding tenths_all
cells_many fs = length-map fs tenths_in
