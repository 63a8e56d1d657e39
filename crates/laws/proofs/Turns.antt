-- A fold, a sum and tests over the standing part of an array, taken in order: what stands so far and what is left make the whole.
-- For each, what holds past the part or the array, and after one element more.
use Prim.Native.Nat.{ℕ, ◌+◌, ◌<◌, ◌≤◌}
use mathlib.Core.Bool.{Bool, true, false, not, ◌&&◌, ◌||◌}
use mathlib.Core.Path.{◌≡◌, refl, sym, ◌∙◌}
use mathlib.Core.List.{List, foldl}
use native.Mathlib.Omega.{arith}
use lib.Dec.{eqb}
use lib.ListN.{length, take, drop, get_or}
use Rattle.laws.specs.{some, every, distinct, sum_by}
use Rattle.laws.proofs.Elements.{or_none, or_assoc}
use Rattle.laws.proofs.Standing.{standing_next, standing_end, standing_out}

module _ {A B : Type 0} (f : B → A → B) (l : List A) (n i : ℕ) (b whole : B) (h : foldl f b (drop i (take n l)) ≡ whole) where
  pub fold_end : n ≤ i → b ≡ whole
  fold_end p = simp (standing_end l n i p) at h

  pub fold_out : length l ≤ i → b ≡ whole
  fold_out p = simp (standing_out l n i p) at h

  pub fold_more : (d : A) (next : B) → i < n → i < length l → next ≡ f b (get_or l i d) → foldl f next (drop (i + 1) (take n l)) ≡ whole
  fold_more d next p q e = rw e (simp (standing_next l n i d p q) at h)

module _ {A : Type 0} (f : A → ℕ) (l : List A) (n i sum whole : ℕ) (h : sum + sum_by f (drop i (take n l)) ≡ whole) where
  pub sum_end : n ≤ i → sum ≡ whole
  unfolding sum_by
  sum_end p = omega (arith, simp (standing_end l n i p) at h)

  pub sum-out : length l ≤ i → sum ≡ whole
  unfolding sum_by
  sum-out p = omega (arith, simp (standing_out l n i p) at h)

  pub sum_more : (d : A) (x : ℕ) → i < n → i < length l → x ≡ f (get_or l i d) → sum + x + sum_by f (drop (i + 1) (take n l)) ≡ whole
  unfolding sum_by
  sum_more d x p q e = omega (arith, simp (standing_next l n i d p q) at h)

module _ {A : Type 0} (test : A → Bool) (l : List A) (n i : ℕ) (found whole : Bool) (h : (found || some test (drop i (take n l))) ≡ whole) where
  pub some_end : n ≤ i → found ≡ whole
  unfolding some
  some_end p = sym (or_none found) ∙ (simp (standing_end l n i p) at h)

  pub some_out : length l ≤ i → found ≡ whole
  unfolding some
  some_out p = sym (or_none found) ∙ (simp (standing_out l n i p) at h)

  pub some_more : (d : A) (t : Bool) → i < n → i < length l → t ≡ test (get_or l i d) → ((found || t) || some test (drop (i + 1) (take n l))) ≡ whole
  unfolding some
  some_more d t p q e = rw e (or_assoc found (test (get_or l i d)) (some test (drop (i + 1) (take n l))) ∙ (simp (standing_next l n i d p q) at h))

pub and_none : (a : Bool) → (a && true) ≡ a
and_none true = refl
and_none false = refl

pub and_assoc : (a b c : Bool) → ((a && b) && c) ≡ (a && (b && c))
and_assoc true b c = refl
and_assoc false b c = refl

module _ {A : Type 0} (test : A → Bool) (l : List A) (n i : ℕ) (kept whole : Bool) (h : (kept && every test (drop i (take n l))) ≡ whole) where
  pub every_end : n ≤ i → kept ≡ whole
  unfolding every
  every_end p = sym (and_none kept) ∙ (simp (standing_end l n i p) at h)

  pub every-out : length l ≤ i → kept ≡ whole
  unfolding every
  every-out p = sym (and_none kept) ∙ (simp (standing_out l n i p) at h)

  pub every_more : (d : A) (t : Bool) → i < n → i < length l → t ≡ test (get_or l i d) → ((kept && t) && every test (drop (i + 1) (take n l))) ≡ whole
  unfolding every
  every_more d t p q e = rw e (and_assoc kept (test (get_or l i d)) (every test (drop (i + 1) (take n l))) ∙ (simp (standing_next l n i d p q) at h))

module _ {A : Type 0} (number_of : A → ℕ) (l : List A) (n i : ℕ) (apart whole : Bool) (h : (apart && distinct number_of (drop i (take n l))) ≡ whole) where
  pub distinct_end : n ≤ i → apart ≡ whole
  unfolding distinct
  distinct_end p = sym (and_none apart) ∙ (simp (standing_end l n i p) at h)

  pub distinct-out : length l ≤ i → apart ≡ whole
  unfolding distinct
  distinct-out p = sym (and_none apart) ∙ (simp (standing_out l n i p) at h)

  pub distinct_more : (d : A) (again : Bool) → i < n → i < length l → again ≡ some (λ b. eqb (number_of b) (number_of (get_or l i d))) (drop (i + 1) (take n l))
      → ((apart && not again) && distinct number_of (drop (i + 1) (take n l))) ≡ whole
  unfolding distinct
  distinct_more d again p q e =
      rw e (and_assoc apart (not (some (λ b. eqb (number_of b) (number_of (get_or l i d))) (drop (i + 1) (take n l)))) (distinct number_of (drop (i + 1) (take n l)))
      ∙ (simp (standing_next l n i d p q) at h))
