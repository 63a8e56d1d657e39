-- A ceiling over a whole list, read at each place and of each part, and kept by a store and by more numbers behind; a sum after a store, and its
-- bound; and the sum a step at a time, as a loop goes.
use Prim.Native.Nat.{ℕ, zero, suc, ◌+◌, ◌*◌, ◌<◌, ◌≤◌}
use mathlib.Core.Path.{◌≡◌, refl}
use mathlib.Core.Bool.{Bool, true, false, ◌&&◌}
use mathlib.Core.List.{List, [], ◌∷◌, ◌++◌}
use native.Mathlib.Numerals.{add-one}
use native.Mathlib.Nat.{mul-suc}
use native.Mathlib.Omega.{arith}
use lib.Dec.{leb}
use lib.ListN.{length, get_or, set, take, drop, drop_of_length-le}
use lib.Seq.{drop-cons}
use borrow.Author.Tests.{le-leb, leb-true}
use Rattle.std.specs.List.{list_all}
use Rattle.laws.specs.{each_at_most, sum_of}

-- both sides of a conjunction that holds
pub and_left : (a b : Bool) → a && b ≡ true → a ≡ true
and_left true b e = refl
and_left false b e = e

pub and_right : (a b : Bool) → a && b ≡ true → b ≡ true
and_right true b e = e
and_right false b e = absurd (let z : ◌≡◌ {A = ℕ} 0 1 = cc in omega arith)

pub both : (a b : Bool) → a ≡ true → b ≡ true → a && b ≡ true
both a b e f = rw (e, f)

module _ (m : ℕ) where
  pub ceiling_at : (xs : List ℕ) → each_at_most m xs ≡ true → (i : ℕ) → get_or xs i 0 ≤ m
  unfolding each_at_most
  ceiling_at [] e i = omega arith
  ceiling_at (x ∷ xs) e zero = leb-true x m (and_left (leb x m) (each_at_most m xs) e)
  ceiling_at (x ∷ xs) e (suc i) = ceiling_at xs (and_right (leb x m) (each_at_most m xs) e) i

  pub ceiling_take : (n : ℕ) (xs : List ℕ) → each_at_most m xs ≡ true → each_at_most m (take n xs) ≡ true
  unfolding each_at_most
  ceiling_take zero xs e = refl
  ceiling_take (suc n) [] e = refl
  ceiling_take (suc n) (x ∷ xs) e = rw (and_left (leb x m) (each_at_most m xs) e) (ceiling_take n xs (and_right (leb x m) (each_at_most m xs) e))

  pub ceiling_drop : (n : ℕ) (xs : List ℕ) → each_at_most m xs ≡ true → each_at_most m (drop n xs) ≡ true
  unfolding each_at_most
  ceiling_drop zero xs e = e
  ceiling_drop (suc n) [] e = refl
  ceiling_drop (suc n) (x ∷ xs) e = ceiling_drop n xs (and_right (leb x m) (each_at_most m xs) e)

  pub ceiling_set : (xs : List ℕ) (i n : ℕ) → n ≤ m → each_at_most m xs ≡ true → each_at_most m (set xs i n) ≡ true
  unfolding each_at_most
  ceiling_set [] i n h e = e
  ceiling_set (x ∷ xs) zero n h e = both _ _ (le-leb n m h) (and_right (leb x m) (each_at_most m xs) e)
  ceiling_set (x ∷ xs) (suc i) n h e =
      both _ _ (and_left (leb x m) (each_at_most m xs) e) (ceiling_set xs i n h (and_right (leb x m) (each_at_most m xs) e))

  pub ceiling_append : (xs ys : List ℕ) → each_at_most m xs ≡ true → each_at_most m ys ≡ true → each_at_most m (xs ++ ys) ≡ true
  unfolding each_at_most
  ceiling_append [] ys e f = f
  ceiling_append (x ∷ xs) ys e f =
      both _ _ (and_left (leb x m) (each_at_most m xs) e) (ceiling_append xs ys (and_right (leb x m) (each_at_most m xs) e) f)

  pub sum_at_most : (xs : List ℕ) → each_at_most m xs ≡ true → sum_of xs ≤ m * length xs
  unfolding each_at_most sum_of
  sum_at_most [] e = omega arith
  sum_at_most (x ∷ xs) e =
      let h : x ≤ m = leb-true x m (and_left (leb x m) (each_at_most m xs) e) in
      omega (arith, mul-suc m (length xs), sum_at_most xs (and_right (leb x m) (each_at_most m xs) e))

  -- as the library asks it
  pub each_all : (xs : List ℕ) → list_all (λ x. leb x m) xs ≡ each_at_most m xs
  unfolding each_at_most
  each_all [] = refl
  each_all (x ∷ xs) = rw (each_all xs) refl

module _ (s : List ℕ) (i : ℕ) where
  pub sum_goes_on : i < length s → sum_of (drop i s) ≡ get_or s i 0 + sum_of (drop (i + 1) s)
  unfolding sum_of
  sum_goes_on h = rw (add-one, drop-cons s i 0 h)

  pub sum_ends : length s ≤ i → sum_of (drop i s) ≡ 0
  unfolding sum_of
  sum_ends h = rw (drop_of_length-le s h)

pub sum-set : (xs : List ℕ) (i n : ℕ) → i < length xs → get_or xs i 0 ≡ 0 → sum_of (set xs i n) ≡ sum_of xs + n
unfolding sum_of
sum-set [] i n h e = absurd (omega arith)
sum-set (x ∷ xs) zero n h e = omega arith
sum-set (x ∷ xs) (suc i) n h e = omega (arith, sum-set xs i n (omega arith) e)
