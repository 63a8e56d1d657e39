-- Lists whose elements bear distinct numbers: an element may be changed that keeps its number, and each element is the one under its number.
use Rattle.laws.proofs.{ℕ, Bool, true, false, cond, not, ◌&&◌, ◌||◌, ◌≡◌, refl, List, [], ◌∷◌, eq-eqb, eqb}
use mathlib.Core.List.{Memᴰ}
use mathlib.Core.Option.{none, some}
use Rattle.laws.specs.{some as some_of, distinct}
use Rattle.laws.proofs.Elements.{none_passes}
use Rattle.laws.proofs.Distinct.{unequal, bears, first_apart, rest-distinct}
use Rattle.theorem_ledger.specs.{change}
use Rattle.theorem_accounts.specs.{under}

module _ {A : Type 0} (number_of : A → ℕ) where
  pub none_bears : (n : ℕ) (l : List A) → under number_of n l ≡ none → some_of (bears number_of n) l ≡ false
  unfolding under some_of
  none_bears n [] e = refl
  none_bears n (a ∷ l) e = go (eqb (number_of a) n) e (none_bears n l)
    where
      go : (t : Bool) → cond t (some a) (under number_of n l) ≡ none → (under number_of n l ≡ none → some_of (bears number_of n) l ≡ false)
          → (t || some_of (bears number_of n) l) ≡ false
      go true e rest = cc
      go false e rest = rest e

  -- one changed, that keeps its number
  module _ (f : A → A) (keeps : (a : A) → number_of (f a) ≡ number_of a) (n : ℕ) where
    some-changed : (k : ℕ) (l : List A) → some_of (bears number_of k) (change number_of n f l) ≡ some_of (bears number_of k) l
    unfolding some_of change
    some-changed k [] = refl
    some-changed k (a ∷ l) = go (eqb (number_of a) n) (some-changed k l)
      where
        go : (t : Bool) → some_of (bears number_of k) (change number_of n f l) ≡ some_of (bears number_of k) l
            → some_of (bears number_of k) (cond t (f a ∷ l) (a ∷ change number_of n f l)) ≡ (bears number_of k a || some_of (bears number_of k) l)
        go true rest = rw (keeps a)
        go false rest = rw rest

    pub distinct-changed : (l : List A) → distinct number_of (change number_of n f l) ≡ distinct number_of l
    unfolding distinct change
    distinct-changed [] = refl
    distinct-changed (a ∷ l) = go (eqb (number_of a) n) (distinct-changed l)
      where
        go : (t : Bool) → distinct number_of (change number_of n f l) ≡ distinct number_of l
            → distinct number_of (cond t (f a ∷ l) (a ∷ change number_of n f l)) ≡ (not (some_of (bears number_of (number_of a)) l) && distinct number_of l)
        go true rest = rw (keeps a)
        go false rest = rw (some-changed (number_of a) l, rest)

  -- where numbers are distinct, what is listed is what stands under its number
  pub listed-under : (a : A) (l : List A) → distinct number_of l ≡ true → Memᴰ a l → under number_of (number_of a) l ≡ some a
  unfolding distinct under
  listed-under a [] d m = elim m [ ]
  listed-under a (b ∷ l) d (Memᴰ.head e) = rw e (rw (eq-eqb (number_of b) (number_of b) refl))
  listed-under a (b ∷ l) d (Memᴰ.tail m) =
      rw (unequal (number_of a) (number_of b) (none_passes (bears number_of (number_of b)) a l (first_apart number_of b l d) m)) (listed-under a l (rest-distinct number_of b l d) m)
