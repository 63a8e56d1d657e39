-- A row put byte by byte: what is left of it, put behind what was put, is the row.
use Rattle.laws.proofs.{ℕ, suc, ◌+◌, ◌≤◌, ◌<◌, ◌≡◌, sym, true, false, cond, List, [], ◌++◌, append-nil, arith, add-one, length, get_or, drop, drop-cons, drop_of_length-le}
use Rattle.text.specs.{Wrote, greatest}
use Rattle.text.proofs.Writes.{wrote_none, wrote_then, wrote_as}
use Rattle.sheet_read.specs.{Reading, Mark, JoinedRow, turned, mark_of, mark_text, mark_fields, ends_row, joined_from, fields_from, width_from}

pub fields-few : (mark : Mark) → mark_fields mark ≤ 1
fields-few Mark.Pass = omega arith
fields-few Mark.Keep = omega arith
fields-few Mark.Field = omega arith
fields-few Mark.Row = omega arith

-- what is left from `i` on, where so many fields were begun and so much was put
pub record Left (s : List ℕ) (reading : Reading) (fields i : ℕ) (out : List ℕ) (end : ℕ) (after : List ℕ) (row : JoinedRow) : Type 0 where
  pub wrote : Wrote out end (joined_from reading (drop i s)) after row.end
  pub count : row.fields + 1 ≡ fields + fields_from reading (drop i s)
  pub next : row.next ≡ i + width_from reading (drop i s)

abbrev pub row_at : ℕ → ℕ → ℕ → JoinedRow
row_at next fields end = record { next = next; fields = fields; end = end }

-- nothing is left at the end of the sheet
pub left_none : (s : List ℕ) (reading : Reading) (fields i : ℕ) (out : List ℕ) (end next : ℕ) → length s ≤ i → length out ≤ greatest → end ≤ greatest → next ≡ i
    → Left s reading fields i out end out (row_at next fields end)
unfolding joined_from fields_from width_from
left_none s reading fields i out end next h long fits e = record {
  wrote = rw (drop_of_length-le s h) (wrote_none out end long fits);
  count = rw (drop_of_length-le s h);
  next = rw (drop_of_length-le s h) (omega (arith, e));
}

-- a byte, where it leads, and its mark
module _ (s : List ℕ) (reading : Reading) (i : ℕ) (next : Reading) (mark : Mark) (h : i < length s) (e : next ≡ turned reading (get_or s i 0)) (f : mark ≡ mark_of reading next) where
  joined_here : joined_from reading (drop i s) ≡ mark_text mark (get_or s i 0) ++ cond (ends_row mark) [] (joined_from next (drop (i + 1) s))
  unfolding joined_from
  joined_here = rw (add-one, drop-cons s i 0 h, f, e)

  fields_here : fields_from reading (drop i s) ≡ mark_fields mark + cond (ends_row mark) 1 (fields_from next (drop (i + 1) s))
  unfolding fields_from
  fields_here = rw (add-one, drop-cons s i 0 h, f, e)

  width_here : width_from reading (drop i s) ≡ suc (cond (ends_row mark) 0 (width_from next (drop (i + 1) s)))
  unfolding width_from
  width_here = rw (add-one, drop-cons s i 0 h, f, e)

  module _ (fields count : ℕ) (out : List ℕ) (end : ℕ) (after : List ℕ) (place : ℕ) (n : count ≡ mark_fields mark) (w : Wrote out end (mark_text mark (get_or s i 0)) after place) where
    -- the byte ends the row
    pub left_ended : ends_row mark ≡ true → Left s reading fields i out end after (row_at (i + 1) (fields + count) place)
    left_ended t = record {
      wrote = wrote_as (sym (simp (t, append-nil) at joined_here)) w;
      count = omega (arith, simp t at fields_here);
      next = omega (arith, simp t at width_here);
    }

    -- the row goes on behind it
    pub left-on : ends_row mark ≡ false → (o : List ℕ) (row : JoinedRow) → Left s next (fields + count) (i + 1) after place o row → Left s reading fields i out end o row
    left-on t o row k = record {
      wrote = wrote_as (sym (simp t at joined_here)) (wrote_then w k.wrote);
      count = omega (arith, simp t at fields_here, k.count);
      next = omega (arith, simp t at width_here, k.next);
    }
