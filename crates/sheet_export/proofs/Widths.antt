-- How long a row can be: a field doubles at most, and stands between quotes; the five fields of an S line, with the commas before them, are a part of it.
use Rattle.laws.proofs.{ℕ, zero, suc, ◌+◌, ◌-◌, ◌*◌, ◌≤◌, ◌≡◌, ap, Bool, true, false, cond, List, [], ◌∷◌, arith, eqb, length, get_or, take, length-append}
use Rattle.laws.specs.{sum_by}
use Rattle.text.specs.{comma, extend, split, field_at, join, join_after}
use Rattle.text.proofs.Fields.{split-some, join-split}
use Rattle.line.specs.{body_of, entry_of}
use Rattle.sheet_read.specs.{quote}
use Rattle.sheet_write.specs.{doubled, quoted, row_text, row_of}
use Rattle.book_export.specs.{is_addition}
use Rattle.book_export.proofs.Additions.{addition_fields}
use Rattle.sheet_export.specs.{most_for_byte}

-- ---- a row, by its fields

doubled-few : (f : List ℕ) → length (doubled f) ≤ 2 * length f
unfolding doubled
doubled-few [] = omega arith
doubled-few (b ∷ f) = go (eqb b quote) (doubled-few f)
  where
    go : (x : Bool) → length (doubled f) ≤ 2 * length f → length (cond x (quote ∷ quote ∷ doubled f) (b ∷ doubled f)) ≤ 2 * suc (length f)
    go true h = omega arith
    go false h = omega arith

quoted-few : (f : List ℕ) → length (quoted f) ≤ 2 * length f + 2
unfolding quoted
quoted-few f = omega (arith, length-append (doubled f) (quote ∷ []), doubled-few f)

row_few : (a b c d e : List ℕ) → length (row_text (a ∷ b ∷ c ∷ d ∷ e ∷ [])) ≤ 2 * (length a + length b + length c + length d + length e) + 16
unfolding row_text join join_after
row_few a b c d e = simp length-append (omega (arith, quoted-few a, quoted-few b, quoted-few c, quoted-few d, quoted-few e))

-- ---- the fields of a line

join-long : (f : List ℕ) (fs : List (List ℕ)) → length (join_after f fs) ≡ length f + sum_by (λ (g : List ℕ). length g + 1) fs
unfolding join_after sum_by
join-long f [] = omega arith
join-long f (g ∷ gs) = omega (arith, length-append f (comma ∷ join_after g gs), join-long g gs)

-- five fields behind the first, with a comma before each
five_fit : (fs : List (List ℕ)) → 6 ≤ length fs
    → length (field_at fs 1) + length (field_at fs 2) + length (field_at fs 3) + length (field_at fs 4) + length (field_at fs 5) + 5 ≤ length (join fs)
unfolding join sum_by
five_fit (l ∷ a ∷ b ∷ c ∷ d ∷ e ∷ fs) h = omega (arith, join-long l (a ∷ b ∷ c ∷ d ∷ e ∷ fs))
five_fit [] h = absurd (omega arith)
five_fit (l ∷ []) h = absurd (omega arith)
five_fit (l ∷ a ∷ []) h = absurd (omega arith)
five_fit (l ∷ a ∷ b ∷ []) h = absurd (omega arith)
five_fit (l ∷ a ∷ b ∷ c ∷ []) h = absurd (omega arith)
five_fit (l ∷ a ∷ b ∷ c ∷ d ∷ []) h = absurd (omega arith)

row_within : (line : List ℕ) → 6 ≤ length (split line) → length (row_text (row_of line)) ≤ most_for_byte * (length line + 1)
unfolding row_of
row_within line h =
    let fs = split line in
    omega (
      arith,
      row_few (field_at fs 1) (field_at fs 2) (field_at fs 3) (field_at fs 4) (field_at fs 5),
      five_fit fs h,
      ap length (join-split line),
    )

-- ---- an S line has six fields

-- fewer bytes have no more fields
split-take : (n : ℕ) (s : List ℕ) → length (split (take n s)) ≤ length (split s)
unfolding split extend
split-take zero s = omega (arith, split-some s)
split-take (suc n) [] = omega arith
split-take (suc n) (b ∷ s) = go (eqb b comma) (split (take n s)) (split s) (split-take n s)
  where
    go : (x : Bool) (t u : List (List ℕ)) → length t ≤ length u → length (cond x ([] ∷ t) (extend b t)) ≤ length (cond x ([] ∷ u) (extend b u))
    go true t u h = omega arith
    go false [] [] h = omega arith
    go false [] (g ∷ gs) h = omega arith
    go false (f ∷ fs) [] h = absurd (omega arith)
    go false (f ∷ fs) (g ∷ gs) h = omega arith

line_six : (line : List ℕ) → is_addition (entry_of line) ≡ true → 6 ≤ length (split line)
unfolding body_of
line_six line e = go (eqb (get_or line (length line - 1) 0) 10) (omega (arith, (addition_fields line e).many))
  where
    go : (x : Bool) → 6 ≤ length (split (cond x (take (length line - 1) line) line)) → 6 ≤ length (split line)
    go true h = omega (arith, split-take (length line - 1) line)
    go false h = h

-- the row of an S line has at most 3 bytes for each byte of the line and its end
pub addition_few : (line : List ℕ) → is_addition (entry_of line) ≡ true → length (row_text (row_of line)) ≤ most_for_byte * (length line + 1)
addition_few line e = row_within line (line_six line e)
