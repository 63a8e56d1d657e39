-- Sums over a list, after a store and with one more; and the sum over those that bear a number, which is that of the one who bears it where the numbers
-- are distinct.
use Rattle.laws.proofs.{ℕ, zero, suc, ◌+◌, ◌<◌, Bool, true, false, cond, ◌≡◌, refl, List, [], ◌∷◌, ◌++◌, arith, eqb, eq-eqb, length, get_or, set}
use Rattle.laws.specs.{some, distinct, sum_by}
use Rattle.laws.proofs.Elements.{or_false_left, or_false_right}
use Rattle.laws.proofs.Distinct.{unequal, bears, first_apart, rest-distinct}

module _ {A : Type 0} (f : A → ℕ) where
  pub sum-append : (l m : List A) → sum_by f (l ++ m) ≡ sum_by f l + sum_by f m
  unfolding sum_by
  sum-append [] m = omega arith
  sum-append (a ∷ l) m = omega (arith, sum-append l m)

  pub sum_more : (l : List A) (a : A) → sum_by f (l ++ (a ∷ [])) ≡ sum_by f l + f a
  unfolding sum_by
  sum_more l a = omega (arith, sum-append l (a ∷ []))

  pub sum_put : (l : List A) (i : ℕ) (a d : A) → i < length l → sum_by f (set l i a) + f (get_or l i d) ≡ sum_by f l + f a
  unfolding sum_by
  sum_put [] i a d h = absurd (omega arith)
  sum_put (x ∷ l) zero a d h = omega arith
  sum_put (x ∷ l) (suc i) a d h = omega (arith, sum_put l i a d (omega arith))

none_at : {A : Type 0} (p : A → Bool) (l : List A) (i : ℕ) (d : A) → some p l ≡ false → i < length l → p (get_or l i d) ≡ false
unfolding some
none_at p [] i d e h = absurd (omega arith)
none_at p (a ∷ l) zero d e h = or_false_left (p a) (some p l) e
none_at p (a ∷ l) (suc i) d e h = none_at p l i d (or_false_right (p a) (some p l) e) (omega arith)

module _ {A : Type 0} (number_of measure : A → ℕ) where
  -- the measure of one that bears the number n
  abbrev pub borne : ℕ → A → ℕ
  borne n a = cond (eqb (number_of a) n) (measure a) 0

  borne_none : (n : ℕ) (l : List A) → some (bears number_of n) l ≡ false → sum_by (borne n) l ≡ 0
  unfolding some sum_by
  borne_none n [] e = refl
  borne_none n (a ∷ l) e =
      rw (or_false_left (eqb (number_of a) n) (some (bears number_of n) l) e) (omega (arith, borne_none n l (or_false_right (eqb (number_of a) n) (some (bears number_of n) l) e)))

  pub borne_once : (l : List A) (i : ℕ) (d : A) → distinct number_of l ≡ true → i < length l
      → sum_by (borne (number_of (get_or l i d))) l ≡ measure (get_or l i d)
  unfolding sum_by
  borne_once [] i d apart h = absurd (omega arith)
  borne_once (a ∷ l) zero d apart h =
      rw (eq-eqb (number_of a) (number_of a) refl) (omega (arith, borne_none (number_of a) l (first_apart number_of a l apart)))
  borne_once (a ∷ l) (suc i) d apart h =
      let other = unequal (number_of (get_or l i d)) (number_of a) (none_at (bears number_of (number_of a)) l i d (first_apart number_of a l apart) (omega arith)) in
      rw other (omega (arith, borne_once l i d (rest-distinct number_of a l apart) (omega arith)))
