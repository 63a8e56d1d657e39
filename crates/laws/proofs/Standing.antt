-- The standing part of an array, its first n elements, gone through by an index: at i stands the i-th element and what follows,
-- and past the part or the array nothing.
use Prim.Native.Nat.{ℕ, zero, suc, ◌+◌, ◌<◌, ◌≤◌}
use mathlib.Core.Path.{◌≡◌, refl, sym, ap, ◌∙◌}
use mathlib.Core.List.{List, [], ◌∷◌, ◌++◌, map}
use native.Mathlib.Numerals.{add-one}
use native.Mathlib.Omega.{arith}
use lib.ListN.{length, take, drop, get_or, set, length-take, length-map, drop_of_length-le}
use lib.Seq.{drop-cons, get_or-take, take-suc-set, map-set_same}

module _ {A : Type 0} (l : List A) (n i : ℕ) where
  pub standing_next : (d : A) → i < n → i < length l → drop i (take n l) ≡ get_or l i d ∷ drop (i + 1) (take n l)
  standing_next d p q =
      let h : i < length (take n l) = simp length-take (omega arith) in
      rw (add-one, drop-cons (take n l) i d, get_or-take)

  pub standing_end : n ≤ i → drop i (take n l) ≡ []
  standing_end p = drop_of_length-le (take n l) {i = i} (simp length-take (omega arith))

  pub standing_out : length l ≤ i → drop i (take n l) ≡ []
  standing_out p = drop_of_length-le (take n l) {i = i} (simp length-take (omega arith))

-- an array of structs is as long as the array of what stands for them
pub as_long : (A B : Type 0) (f : A → B) (l : List A) (n : ℕ) → length (map f l) ≡ n → length l ≡ n
as_long A B f l n e = sym (length-map l f) ∙ e

-- what stands for the first n, and after a store
module _ {A B : Type 0} (f : A → B) where
  pub take-map : (n : ℕ) (l : List A) → take n (map f l) ≡ map f (take n l)
  take-map zero l = refl
  take-map (suc n) [] = refl
  take-map (suc n) (x ∷ xs) = ap (λ (t : List B). f x ∷ t) (take-map n xs)

  pub drop-map : (n : ℕ) (l : List A) → drop n (map f l) ≡ map f (drop n l)
  drop-map zero l = refl
  drop-map (suc n) [] = refl
  drop-map (suc n) (x ∷ xs) = drop-map n xs

  pub map-set : (l : List A) (i : ℕ) (a : A) → map f (set l i a) ≡ set (map f l) i (f a)
  map-set [] i a = refl
  map-set (x ∷ xs) zero a = refl
  map-set (x ∷ xs) (suc i) a = ap (λ (t : List B). f x ∷ t) (map-set xs i a)

-- inside a list the default does not matter
pub get_d_same : {A : Type 0} (l : List A) (i : ℕ) (d e : A) → i < length l → get_or l i d ≡ get_or l i e
get_d_same (x ∷ xs) zero d e h = refl
get_d_same (x ∷ xs) (suc i) d e h = get_d_same xs i d e (omega arith)
get_d_same [] i d e h = absurd (omega arith)

module _ {A : Type 0} (n : ℕ) (l : List A) where
  -- one more behind those that stand
  pub stood_more : (a : A) → n < length l → take (n + 1) (set l n a) ≡ take n l ++ (a ∷ [])
  stood_more a h = rw add-one (take-suc-set l n a h)

  -- one put in place of another that f cannot tell from it
  pub stood_same : {B : Type 0} (f : A → B) (i : ℕ) (a d : A) → f a ≡ f (get_or l i d) → map f (take n (set l i a)) ≡ map f (take n l)
  stood_same f i a d e = sym (take-map f n (set l i a)) ∙ ap (take n) (map-set_same f l i a d e) ∙ take-map f n l
