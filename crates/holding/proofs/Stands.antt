-- What a search found stands in the list and bears the number; where it found nothing, nothing bears it; and it looks at numbers alone.
use Rattle.std.specs.Prelude.{Some, None, Option}
use Rattle.laws.proofs.{ℕ, suc, ◌+◌, ◌<◌, Bool, true, false, cond, ◌||◌, ◌≡◌, refl, sym, ap, ◌∙◌, List, [], ◌∷◌, ◌++◌, map, arith, eqb-true, eqb, length, get_or}
use Rattle.laws.specs.{some}
use Rattle.holding.specs.{place_from}

abbrev place : Option ℕ → ℕ
place (Some i) = i
place None = 0

-- a search that begins at j finds the place j + k of the k-th
pub record StandsAt {A : Type 0} (number_of : A → ℕ) (n j i : ℕ) (l : List A) : Type 0 where
  pub k : ℕ
  pub there : i ≡ j + k
  pub inside : k < length l
  pub bears : (d : A) → number_of (get_or l k d) ≡ n

module _ {A : Type 0} (number_of : A → ℕ) (n : ℕ) where
  pub stands : (j i : ℕ) (l : List A) → place_from number_of n j l ≡ Some i → StandsAt number_of n j i l
  unfolding place_from
  stands j i [] e = let z : ◌≡◌ {A = ℕ} 0 1 = cc in absurd (omega arith)
  stands j i (a ∷ l) e = go (eqb (number_of a) n) refl e (stands (j + 1) i l)
    where
      later : StandsAt number_of n (j + 1) i l → StandsAt number_of n j i (a ∷ l)
      later s = record { k = suc s.k; there = omega (arith, s.there); inside = omega (arith, s.inside); bears = s.bears }

      go : (t : Bool) → eqb (number_of a) n ≡ t → cond t (Some j) (place_from number_of n (j + 1) l) ≡ Some i
          → (place_from number_of n (j + 1) l ≡ Some i → StandsAt number_of n (j + 1) i l) → StandsAt number_of n j i (a ∷ l)
      go true t e rest = record { k = 0; there = let q : i ≡ j = ap place (sym e) in omega arith; inside = omega arith; bears = λ d. eqb-true (number_of a) n t }
      go false t e rest = later (rest e)

  pub stands_nowhere : (j : ℕ) (l : List A) → place_from number_of n j l ≡ None → some (λ a. eqb (number_of a) n) l ≡ false
  unfolding place_from some
  stands_nowhere j [] e = refl
  stands_nowhere j (a ∷ l) e = go (eqb (number_of a) n) e (stands_nowhere (j + 1) l)
    where
      go : (t : Bool) → cond t (Some j) (place_from number_of n (j + 1) l) ≡ None
          → (place_from number_of n (j + 1) l ≡ None → some (λ a. eqb (number_of a) n) l ≡ false)
          → (t || some (λ a. eqb (number_of a) n) l) ≡ false
      go true e rest = let z : ◌≡◌ {A = ℕ} 0 1 = cc in absurd (omega arith)
      go false e rest = rest e

-- the search of a list is that of its numbers
pub place_of-numbers : {A : Type 0} (number_of : A → ℕ) (n j : ℕ) (l : List A) → place_from number_of n j l ≡ place_from (λ k. k) n j (map number_of l)
unfolding place_from
place_of-numbers number_of n j [] = refl
place_of-numbers number_of n j (a ∷ l) = ap (cond (eqb (number_of a) n) (Some j)) (place_of-numbers number_of n (j + 1) l)

-- so it finds the same where the numbers are the same, and what it finds it finds with more behind
module _ {A : Type 0} (number_of : A → ℕ) where
  pub found-same : (n j : ℕ) (l m : List A) → map number_of l ≡ map number_of m → place_from number_of n j l ≡ place_from number_of n j m
  found-same n j l m e = place_of-numbers number_of n j l ∙ ap (place_from (λ (k : ℕ). k) n j) e ∙ sym (place_of-numbers number_of n j m)

  pub found_before : (n j i : ℕ) (l more : List A) → place_from number_of n j l ≡ Some i → place_from number_of n j (l ++ more) ≡ Some i
  unfolding place_from
  found_before n j i [] more e = absurd (let z : ◌≡◌ {A = ℕ} 0 1 = cc in omega arith)
  found_before n j i (a ∷ l) more e = go (eqb (number_of a) n) e (found_before n (j + 1) i l more)
    where
      go : (t : Bool) → cond t (Some j) (place_from number_of n (j + 1) l) ≡ Some i
          → (place_from number_of n (j + 1) l ≡ Some i → place_from number_of n (j + 1) (l ++ more) ≡ Some i)
          → cond t (Some j) (place_from number_of n (j + 1) (l ++ more)) ≡ Some i
      go true e rest = e
      go false e rest = rest e
