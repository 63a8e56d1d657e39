-- Lists whose elements bear distinct numbers: the first bears another than the rest, and one of a new number may be added at the end.
use Prim.Native.Nat.{ℕ}
use mathlib.Core.Bool.{Bool, true, false, not}
use mathlib.Core.Path.{◌≡◌, refl, sym}
use mathlib.Core.List.{List, [], ◌∷◌, ◌++◌, map}
use borrow.Author.Tests.{eqb-false, ne_eqb, not-true}
use lib.Dec.{eqb}
use Rattle.laws.specs.{some, distinct}
use Rattle.laws.proofs.Elements.{or_false_left, or_false_right}
use Rattle.laws.proofs.Lists.{and_left, and_right}

pub unequal : (a b : ℕ) → eqb a b ≡ false → eqb b a ≡ false
unequal a b e = ne_eqb b a (λ q. eqb-false a b e (sym q))

module _ {A : Type 0} (number_of : A → ℕ) where
  abbrev pub bears : ℕ → A → Bool
  bears n a = eqb (number_of a) n

  -- one more at the end, of a new number
  none_more : (n : ℕ) (l : List A) (b : A) → some (bears n) l ≡ false → eqb (number_of b) n ≡ false → some (bears n) (l ++ (b ∷ [])) ≡ false
  unfolding some
  none_more n [] b e t = rw t
  none_more n (a ∷ l) b e t =
      rw (or_false_left (bears n a) (some (bears n) l) e) (none_more n l b (or_false_right (bears n a) (some (bears n) l) e) t)

  -- the first of a list of distinct numbers bears another than the rest, whose numbers are distinct
  module _ (a : A) (l : List A) (d : distinct number_of (a ∷ l) ≡ true) where
    pub first_apart : some (bears (number_of a)) l ≡ false
    unfolding distinct
    first_apart = not-true (some (bears (number_of a)) l) (and_left (not (some (bears (number_of a)) l)) (distinct number_of l) d)

    pub rest-distinct : distinct number_of l ≡ true
    unfolding distinct
    rest-distinct = and_right (not (some (bears (number_of a)) l)) (distinct number_of l) d

  pub distinct_more : (l : List A) (b : A) → some (bears (number_of b)) l ≡ false → distinct number_of l ≡ true → distinct number_of (l ++ (b ∷ [])) ≡ true
  unfolding some distinct
  distinct_more [] b n d = refl
  distinct_more (a ∷ l) b n d =
      let other = unequal (number_of a) (number_of b) (or_false_left (bears (number_of b) a) (some (bears (number_of b)) l) n) in
      rw (none_more (number_of a) l b (first_apart a l d) other)
      (distinct_more l b (or_false_right (bears (number_of b) a) (some (bears (number_of b)) l) n) (rest-distinct a l d))

-- the elements of a list bear distinct numbers just where their numbers are distinct
module _ {A : Type 0} (number_of : A → ℕ) where
  some_borne : (n : ℕ) (l : List A) → some (λ (m : ℕ). eqb m n) (map number_of l) ≡ some (λ (a : A). eqb (number_of a) n) l
  unfolding some
  some_borne n [] = refl
  some_borne n (a ∷ l) = rw (some_borne n l)

  pub distinct_borne : (l : List A) → distinct (λ (n : ℕ). n) (map number_of l) ≡ distinct number_of l
  unfolding distinct
  distinct_borne [] = refl
  distinct_borne (a ∷ l) = rw (some_borne (number_of a) l, distinct_borne l)
