-- What stands under a number, in a list that grows at its end or of which one element is changed; and the places of a search, by which
-- an array's store is that change.
use Rattle.std.specs.Prelude.{Some, None}
use Rattle.laws.proofs.{ℕ, suc, ◌+◌, ◌<◌, Bool, true, false, cond, ◌≡◌, refl, sym, ap, ◌∙◌, List, [], ◌∷◌, ◌++◌, arith, eqb-true, eq-eqb, ne_eqb, eqb, length, take, get_or, set, length-take, get_or-take}
use mathlib.Core.Option.{none, some}
use lib.Seq.{take-set-lt}
use Rattle.holding.specs.{place_from}
use Rattle.theorem_ledger.specs.{change}
use Rattle.theorem_accounts.specs.{under}

module _ {A : Type 0} (number_of : A → ℕ) (n : ℕ) where
  pub under_bears : (l : List A) (a : A) → under number_of n l ≡ some a → number_of a ≡ n
  unfolding under
  under_bears [] a e = cc
  under_bears (c ∷ l) a e = go (eqb (number_of c) n) refl e (under_bears l a)
    where
      go : (t : Bool) → eqb (number_of c) n ≡ t → cond t (some c) (under number_of n l) ≡ some a
          → (under number_of n l ≡ some a → number_of a ≡ n) → number_of a ≡ n
      go true t e rest = let same : c ≡ a = cc in ap number_of (sym same) ∙ eqb-true (number_of c) n t
      go false t e rest = rest e

  -- one more at the end
  pub under_more : (l : List A) (b a : A) → under number_of n l ≡ some a → under number_of n (l ++ (b ∷ [])) ≡ some a
  unfolding under
  under_more [] b a e = cc
  under_more (c ∷ l) b a e = go (eqb (number_of c) n) e (under_more l b a)
    where
      go : (t : Bool) → cond t (some c) (under number_of n l) ≡ some a → (under number_of n l ≡ some a → under number_of n (l ++ (b ∷ [])) ≡ some a)
          → cond t (some c) (under number_of n (l ++ (b ∷ []))) ≡ some a
      go true e rest = e
      go false e rest = rest e

  pub under_last : (l : List A) (b : A) → under number_of n l ≡ none → under number_of n (l ++ (b ∷ [])) ≡ cond (eqb (number_of b) n) (some b) none
  unfolding under
  under_last [] b e = refl
  under_last (c ∷ l) b e = go (eqb (number_of c) n) e (under_last l b)
    where
      go : (t : Bool) → cond t (some c) (under number_of n l) ≡ none
          → (under number_of n l ≡ none → under number_of n (l ++ (b ∷ [])) ≡ cond (eqb (number_of b) n) (some b) none)
          → cond t (some c) (under number_of n (l ++ (b ∷ []))) ≡ cond (eqb (number_of b) n) (some b) none
      go true e rest = cc
      go false e rest = rest e

  -- the element under a number is changed, and keeps its number
  module _ (f : A → A) (keeps : (a : A) → number_of a ≡ n → number_of (f a) ≡ n) where
    pub under-changed : (l : List A) (a : A) → under number_of n l ≡ some a → under number_of n (change number_of n f l) ≡ some (f a)
    unfolding under change
    under-changed [] a e = cc
    under-changed (c ∷ l) a e = go (eqb (number_of c) n) refl e (under-changed l a)
      where
        go : (t : Bool) → eqb (number_of c) n ≡ t → cond t (some c) (under number_of n l) ≡ some a
            → (under number_of n l ≡ some a → under number_of n (change number_of n f l) ≡ some (f a))
            → under number_of n (cond t (f c ∷ l) (c ∷ change number_of n f l)) ≡ some (f a)
        go true t e rest = let same : c ≡ a = cc in rw (eq-eqb (number_of (f c)) n (keeps c (eqb-true (number_of c) n t))) (ap (λ (x : A). some (f x)) same)
        go false t e rest = rw t (rest e)

    pub under_other : (m : ℕ) (l : List A) → (n ≡ m → ⊥) → under number_of m (change number_of n f l) ≡ under number_of m l
    unfolding under change
    under_other m [] d = refl
    under_other m (c ∷ l) d = go (eqb (number_of c) n) refl (under_other m l d)
      where
        go : (t : Bool) → eqb (number_of c) n ≡ t → under number_of m (change number_of n f l) ≡ under number_of m l
            → under number_of m (cond t (f c ∷ l) (c ∷ change number_of n f l)) ≡ cond (eqb (number_of c) m) (some c) (under number_of m l)
        go true t rest =
            let e : number_of c ≡ n = eqb-true (number_of c) n t in
            rw (ne_eqb (number_of (f c)) m (λ q. d (sym (keeps c e) ∙ q)), ne_eqb (number_of c) m (λ q. d (sym e ∙ q)))
        go false t rest = ap (cond (eqb (number_of c) m) (some c)) rest

  -- a search that begins at j finds the place j + k of the k-th: that one stands under the number, and to store there is to change it
  pub record Spot (j i : ℕ) (l : List A) : Type 0 where
    pub k : ℕ
    pub there : i ≡ j + k
    pub inside : k < length l
    pub here : (d : A) → under number_of n l ≡ some (get_or l k d)
    pub stored : (d : A) (f : A → A) → set l k (f (get_or l k d)) ≡ change number_of n f l

  spot : (j i : ℕ) (l : List A) → place_from number_of n j l ≡ Some i → Spot j i l
  unfolding place_from under change
  spot j i [] e = let z : ◌≡◌ {A = ℕ} 0 1 = cc in absurd (omega arith)
  spot j i (a ∷ l) e = go (eqb (number_of a) n) refl e (spot (j + 1) i l)
    where
      go : (t : Bool) → eqb (number_of a) n ≡ t → cond t (Some j) (place_from number_of n (j + 1) l) ≡ Some i
          → (place_from number_of n (j + 1) l ≡ Some i → Spot (j + 1) i l) → Spot j i (a ∷ l)
      go true t e rest =
          let q : i ≡ j = cc in
          record { k = 0; there = omega arith; inside = omega arith; here = λ d. rw t; stored = λ d f. rw t }
      go false t e rest =
          let s : Spot (j + 1) i l = rest e in
          record {
            k = suc s.k;
            there = omega (arith, s.there);
            inside = omega (arith, s.inside);
            here = λ d. rw t (s.here d);
            stored = λ d f. rw t (ap (λ (r : List A). a ∷ r) (s.stored d f));
          }

  nowhere_none : (j : ℕ) (l : List A) → place_from number_of n j l ≡ None → under number_of n l ≡ none
  unfolding place_from under
  nowhere_none j [] e = refl
  nowhere_none j (a ∷ l) e = go (eqb (number_of a) n) e (nowhere_none (j + 1) l)
    where
      go : (t : Bool) → cond t (Some j) (place_from number_of n (j + 1) l) ≡ None
          → (place_from number_of n (j + 1) l ≡ None → under number_of n l ≡ none) → cond t (some a) (under number_of n l) ≡ none
      go true e rest = let z : ◌≡◌ {A = ℕ} 0 1 = cc in absurd (omega arith)
      go false e rest = rest e

  -- the standing part of an array, its first `count` elements, searched from the front
  module _ (l : List A) (count : ℕ) where
    within : (k : ℕ) → k < length (take count l) → k < count
    within k h = omega (arith, length-take count l)

    pub standing_here : (i : ℕ) (d : A) → place_from number_of n 0 (take count l) ≡ Some i → under number_of n (take count l) ≡ some (get_or l i d)
    standing_here i d e = go (spot 0 i (take count l) e)
      where
        go : Spot 0 i (take count l) → under number_of n (take count l) ≡ some (get_or l i d)
        go s =
            let q : s.k ≡ i = omega (arith, s.there) in
            s.here d ∙ ap some (get_or-take count l s.k d (within s.k s.inside) ∙ ap (λ (j : ℕ). get_or l j d) q)

    pub standing_changed : (i : ℕ) (d : A) (f : A → A) → place_from number_of n 0 (take count l) ≡ Some i
        → take count (set l i (f (get_or l i d))) ≡ change number_of n f (take count l)
    standing_changed i d f e = go (spot 0 i (take count l) e)
      where
        go : Spot 0 i (take count l) → take count (set l i (f (get_or l i d))) ≡ change number_of n f (take count l)
        go s =
            let h : s.k < count = within s.k s.inside in
            let q : i ≡ s.k = omega (arith, s.there) in
            ap (λ (j : ℕ). take count (set l j (f (get_or l j d)))) q
            ∙ take-set-lt count l s.k (f (get_or l s.k d)) h
            ∙ ap (λ (a : A). set (take count l) s.k (f a)) (sym (get_or-take count l s.k d h))
            ∙ s.stored d f

    pub standing_none : place_from number_of n 0 (take count l) ≡ None → under number_of n (take count l) ≡ none
    standing_none e = nowhere_none 0 (take count l) e
