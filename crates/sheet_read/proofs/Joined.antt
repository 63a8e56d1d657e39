-- The first row of bytes is what its bytes come to, joined and counted as they are marked, and behind it stand the rows of the bytes behind it.
-- By the bytes: each is in front of a row that was begun, or ends it.
use Rattle.laws.proofs.{ℕ, suc, ◌+◌, ◌≤◌, ◌<◌, ◌≡◌, refl, ap, ◌∙◌, Bool, true, false, cond, List, [], ◌∷◌, ◌++◌, arith, length, get_or, drop, drop-cons, drop-drop, drop_of_length-le, length-drop}
use Rattle.text.specs.{comma, extend, join, join_after}
use Rattle.text.proofs.Fields.{join-extend}
use Rattle.sheet_read.specs.{Reading, Mark, Row, turned, mark_of, quoted_mark, in_front, field_in_front, marked, at_end, rows_from, rows_of, mark_text, mark_fields, ends_row, joined_from, fields_from, width_from}

abbrev pub first_of : List Row → Row
first_of rows = get_or rows 0 []

-- the first of some rows and those behind it; its fields, joined, and how many they are
pub record First (rows rest : List Row) (joined : List ℕ) (fields : ℕ) : Type 0 where
  pub first : rows ≡ first_of rows ∷ rest
  pub text : join (first_of rows) ≡ joined
  pub count : length (first_of rows) ≡ fields
  pub some : 0 < length (first_of rows)

-- ---- a byte in front of a row that was begun

length-extend : (b : ℕ) (row : Row) → 0 < length row → length (extend b row) ≡ length row
unfolding extend
length-extend b [] h = absurd (omega arith)
length-extend b (f ∷ fs) h = refl

join_parted : (row : Row) → 0 < length row → join ([] ∷ row) ≡ comma ∷ join row
unfolding join join_after
join_parted [] h = absurd (omega arith)
join_parted (f ∷ fs) h = refl

module _ {rest : List Row} {joined : List ℕ} {fields : ℕ} where
  kept : (b : ℕ) (rows : List Row) → First rows rest joined fields → First (in_front b rows) rest (b ∷ joined) (0 + fields)
  unfolding in_front
  kept b [] k = absurd (let e = k.first in let z : ◌≡◌ {A = ℕ} 0 1 = cc in omega arith)
  kept b (row ∷ rows) k =
      let behind : rows ≡ rest = cc k.first in
      let many = length-extend b row k.some in
      record {
        first = ap (λ (l : List Row). extend b row ∷ l) behind;
        text = join-extend b row ∙ ap (λ (l : List ℕ). b ∷ l) k.text;
        count = omega (arith, k.count);
        some = omega (arith, k.some);
      }

  parted : (rows : List Row) → First rows rest joined fields → First (field_in_front rows) rest (comma ∷ joined) (1 + fields)
  unfolding field_in_front
  parted [] k = absurd (let e = k.first in let z : ◌≡◌ {A = ℕ} 0 1 = cc in omega arith)
  parted (row ∷ rows) k =
      let behind : rows ≡ rest = cc k.first in
      record {
        first = ap (λ (l : List Row). ([] ∷ row) ∷ l) behind;
        text = join_parted row k.some ∙ ap (λ (l : List ℕ). comma ∷ l) k.text;
        count = omega (arith, k.count);
        some = omega arith;
      }

  passed : (rows : List Row) → First rows rest joined fields → First rows rest joined (0 + fields)
  passed rows k = record { first = k.first; text = k.text; count = omega (arith, k.count); some = k.some }

-- ---- from where a reader stands

abbrev FirstFrom : Reading → List ℕ → Type 0
FirstFrom reading bs = First (rows_from reading bs) (rows_of (drop (width_from reading bs) bs)) (joined_from reading bs) (fields_from reading bs)

-- a byte of some mark, which leads to `next`, and the bytes behind it
abbrev FirstBy : Mark → Reading → ℕ → List ℕ → Type 0
FirstBy mark next b bs =
    First (marked mark b (rows_from next bs)) (rows_of (drop (suc (cond (ends_row mark) 0 (width_from next bs))) (b ∷ bs)))
    (mark_text mark b ++ cond (ends_row mark) [] (joined_from next bs)) (mark_fields mark + cond (ends_row mark) 1 (fields_from next bs))

on_by : (mark : Mark) (next : Reading) (b : ℕ) (bs : List ℕ) → ends_row mark ≡ false → FirstFrom next bs → FirstBy mark next b bs
unfolding marked
on_by Mark.Pass next b bs e k = passed _ k
on_by Mark.Keep next b bs e k = kept b _ k
on_by Mark.Field next b bs e k = parted _ k
on_by Mark.Row next b bs e k = absurd (let z : ◌≡◌ {A = ℕ} 0 1 = cc in omega arith)

quoted-on : (before : Reading) → ends_row (quoted_mark before) ≡ false
quoted-on Reading.RowStart = refl
quoted-on Reading.FieldStart = refl
quoted-on Reading.Plain = refl
quoted-on Reading.Quoted = refl
quoted-on Reading.Shut = refl
quoted-on Reading.RowEnd = refl
quoted-on Reading.Broken = refl

-- by where the byte leads: to a row's start, or to where a row was begun
led : (reading next : Reading) (b : ℕ) (bs : List ℕ) → (at_end next ≡ ([] ∷ []) ∷ [] → FirstFrom next bs) → FirstBy (mark_of reading next) next b bs
unfolding marked rows_of join join_after
led reading Reading.RowStart b bs later = record { first = refl; text = refl; count = refl; some = omega arith }
led reading Reading.FieldStart b bs later = on_by Mark.Field Reading.FieldStart b bs refl (later refl)
led reading Reading.Plain b bs later = on_by Mark.Keep Reading.Plain b bs refl (later refl)
led reading Reading.Quoted b bs later = on_by (quoted_mark reading) Reading.Quoted b bs (quoted-on reading) (later refl)
led reading Reading.Shut b bs later = on_by Mark.Pass Reading.Shut b bs refl (later refl)
led reading Reading.RowEnd b bs later = on_by Mark.Pass Reading.RowEnd b bs refl (later refl)
led reading Reading.Broken b bs later = on_by Mark.Pass Reading.Broken b bs refl (later refl)

begun : (reading : Reading) (bs : List ℕ) → at_end reading ≡ ([] ∷ []) ∷ [] → FirstFrom reading bs
unfolding rows_from rows_of width_from joined_from fields_from join join_after
begun reading [] e = rw e (record { first = refl; text = refl; count = refl; some = omega arith })
begun reading (b ∷ bs) e = led reading (turned reading b) b bs (begun (turned reading b) bs)

starting : (b : ℕ) (bs : List ℕ) → FirstFrom Reading.RowStart (b ∷ bs)
unfolding rows_from width_from joined_from fields_from
starting b bs = led Reading.RowStart (turned Reading.RowStart b) b bs (begun (turned Reading.RowStart b) bs)

width_fits : (reading : Reading) (bs : List ℕ) → width_from reading bs ≤ length bs
unfolding width_from
width_fits reading [] = omega arith
width_fits reading (b ∷ bs) = go (ends_row (mark_of reading (turned reading b))) (width_fits (turned reading b) bs)
  where
    go : {n : ℕ} (ends : Bool) → n ≤ length bs → suc (cond ends 0 n) ≤ suc (length bs)
    go true h = omega arith
    go false h = omega arith

-- ---- at a place of a sheet

module _ (sheet : List ℕ) (i : ℕ) where
  abbrev pub width_at : ℕ
  width_at = width_from Reading.RowStart (drop i sheet)

  pub rows_none : length sheet ≤ i → rows_of (drop i sheet) ≡ []
  unfolding rows_of rows_from
  rows_none h = rw (drop_of_length-le sheet h)

  pub first_row : i < length sheet → First (rows_of (drop i sheet)) (rows_of (drop (i + width_at) sheet)) (joined_from Reading.RowStart (drop i sheet)) (fields_from Reading.RowStart (drop i sheet))
  unfolding rows_of
  first_row h =
      let here : FirstFrom Reading.RowStart (drop i sheet) = rw (drop-cons sheet i 0 h) (starting (get_or sheet i 0) (drop (suc i) sheet)) in
      rw (← (drop-drop width_at i sheet)) here

  pub width_some : i < length sheet → 0 < width_at
  unfolding width_from
  width_some h = rw (drop-cons sheet i 0 h) (omega arith)

  pub width_inside : i ≤ length sheet → i + width_at ≤ length sheet
  width_inside h = omega (arith, width_fits Reading.RowStart (drop i sheet), length-drop i sheet)
