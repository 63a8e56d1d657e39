-- The lines from a place on are the first of them, which ends where byte 10 is found, and those behind it.
use Rattle.laws.proofs.{ℕ, suc, ◌+◌, ◌-◌, ◌≤◌, ◌<◌, ◌≡◌, refl, sym, ap, ◌∙◌, Bool, true, false, cond, List, [], ◌∷◌, ⊎_elim, arith, eqb, length, take, drop, drop_of_length-le, le-ltb}
use Rattle.laws.specs.{sum_by}
use Rattle.laws.proofs.Order.{below_or_not}
use Rattle.text.specs.{line_end, width_to, extend}
use Rattle.text.proofs.Widths.{part-ended, part_last}
use Rattle.book_listing.specs.{lines_of, longest_book, lines_run}

pub lines_none : (s : List ℕ) (i : ℕ) → length s ≤ i → lines_of (drop i s) ≡ []
unfolding lines_of
lines_none s i h = rw (drop_of_length-le s h)

-- the lines from i on, where `end` ends the first of them
pub lines_at : (s : List ℕ) (i end : ℕ) → i < length s → end ≡ i + width_to line_end (drop i s)
    → lines_of (drop i s) ≡ take (end - i) (drop i s) ∷ lines_of (drop (end + 1) s)
unfolding lines_of extend
lines_at s i end h e =
    ⊎_elim
    (λ more. part-ended line_end lines_of (λ b t. refl) s i end e (omega arith) more)
    (λ last.
    part_last line_end lines_of (λ b t. refl) s i end e (λ b. refl) h last
    ∙ ap (λ (t : List (List ℕ)). take (end - i) (drop i s) ∷ t) (sym (lines_none s (end + 1) (omega arith))))
    (below_or_not end (length s))

-- a book has no more lines than bytes
pub lines_few : (book : List ℕ) → length (lines_of book) ≤ length book
unfolding lines_of extend
lines_few [] = omega arith
lines_few (b ∷ bs) = go (eqb b 10) (lines_of bs) (lines_few bs)
  where
    go : (x : Bool) (lines : List (List ℕ)) → length lines ≤ length bs → length (cond x ([] ∷ lines) (extend b lines)) ≤ suc (length bs)
    go true lines h = omega arith
    go false [] h = omega arith
    go false (f ∷ fs) h = omega arith

-- a line's bytes and its end
abbrev pub weight : List ℕ → ℕ
weight line = length line + 1

-- a book has as many bytes as its lines and their ends, but that the last may lack its end
pub lines_weigh : (book : List ℕ) → sum_by weight (lines_of book) ≤ length book + 1
unfolding lines_of extend sum_by
lines_weigh [] = omega arith
lines_weigh (b ∷ bs) = go (eqb b 10) (lines_of bs) (lines_weigh bs)
  where
    go : (x : Bool) (lines : List (List ℕ)) → sum_by weight lines ≤ length bs + 1 → sum_by weight (cond x ([] ∷ lines) (extend b lines)) ≤ suc (length bs) + 1
    go true lines h = omega arith
    go false [] h = omega arith
    go false (f ∷ fs) h = omega arith

-- every line of a book that is not too long is run
pub lines_run_lem : (book : List ℕ) → length book ≤ longest_book → lines_run book ≡ lines_of book
unfolding lines_run
lines_run_lem book h = simp (le-ltb _ _ h)
