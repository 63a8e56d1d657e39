-- A property of each element, read at a place and kept by a store or by one element more; the test `every` is such a property, and a bound of each
-- bounds the sum; and `distinct`, which looks at numbers alone, is kept where they stay.
use Rattle.laws.proofs.{ℕ, zero, suc, ◌*◌, ◌≤◌, ◌<◌, Bool, true, ◌≡◌, refl, sym, ap, ◌∙◌, List, [], ◌∷◌, ◌++◌, map, arith, length, get_or, set}
use native.Mathlib.Nat.{mul-suc}
use Rattle.laws.specs.{every, distinct, sum_by}
use Rattle.laws.proofs.Distinct.{distinct_borne}
use Rattle.laws.proofs.Lists.{and_left, and_right, both}
use Rattle.theorem_keeping.specs.{Each}

module _ {A : Type 0} (P : A → Type 0) where
  pub each_at : (l : List A) (i : ℕ) (d : A) → i < length l → Each P l → P (get_or l i d)
  unfolding Each
  each_at [] i d h p = absurd (omega arith)
  each_at (x ∷ l) zero d h p = p.0
  each_at (x ∷ l) (suc i) d h p = each_at l i d (omega arith) p.1

  pub each_set : (l : List A) (i : ℕ) (a : A) → P a → Each P l → Each P (set l i a)
  unfolding Each
  each_set [] i a q p = p
  each_set (x ∷ l) zero a q p = (q, p.1)
  each_set (x ∷ l) (suc i) a q p = (p.0, each_set l i a q p.1)

  pub each_more : (l : List A) (a : A) → P a → Each P l → Each P (l ++ (a ∷ []))
  unfolding Each
  each_more [] a q p = (q, tt)
  each_more (x ∷ l) a q p = (p.0, each_more l a q p.1)

pub each_map : {A : Type 0} (P : A → Type 0) (f : A → A) (l : List A) → Each (λ a. P (f a)) l → Each P (map f l)
unfolding Each
each_map P f [] p = tt
each_map P f (a ∷ l) p = (p.0, each_map P f l p.1)

pub sum_at_most : {A : Type 0} (f : A → ℕ) (m : ℕ) (l : List A) → Each (λ a. f a ≤ m) l → sum_by f l ≤ m * length l
unfolding sum_by Each
sum_at_most f m [] p = omega arith
sum_at_most f m (a ∷ l) p = let h : f a ≤ m = p.0 in omega (arith, mul-suc m (length l), sum_at_most f m l p.1)

pub each_both : {A : Type 0} (P Q R : A → Type 0) → ((a : A) → P a → Q a → R a) → (l : List A) → Each P l → Each Q l → Each R l
unfolding Each
each_both P Q R f [] p q = tt
each_both P Q R f (a ∷ l) p q = (f a p.0 q.0, each_both P Q R f l p.1 q.1)

pub each_so : {A : Type 0} (P Q : A → Type 0) → ((a : A) → P a → Q a) → (l : List A) → Each P l → Each Q l
each_so P Q f l p = each_both P P Q (λ a x y. f a x) l p p

module _ {A : Type 0} (test : A → Bool) where
  pub every_each : (l : List A) → every test l ≡ true → Each (λ a. test a ≡ true) l
  unfolding every Each
  every_each [] e = tt
  every_each (a ∷ l) e = (and_left (test a) (every test l) e, every_each l (and_right (test a) (every test l) e))

  pub each_every : (l : List A) → Each (λ a. test a ≡ true) l → every test l ≡ true
  unfolding every Each
  each_every [] p = refl
  each_every (a ∷ l) p = both _ _ p.0 (each_every l p.1)

module _ {A : Type 0} (number_of : A → ℕ) where
  pub distinct-same : (l m : List A) → map number_of m ≡ map number_of l → distinct number_of l ≡ true → distinct number_of m ≡ true
  distinct-same l m e h = sym (distinct_borne number_of m) ∙ ap (distinct (λ k. k)) e ∙ distinct_borne number_of l ∙ h
