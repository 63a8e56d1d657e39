-- Arrays filled from empty places: every place behind what was put in is empty, and so an array filled with what stands in another is that other.
use Rattle.laws.proofs.{ℕ, zero, suc, ◌-◌, ◌≤◌, ◌≡◌, ap, ◌∙◌, List, arith, length, take, drop, replicate, length-take, length-replicate, sets}
use lib.Seq.{length-sets, drop_at}
use Rattle.theorem_keeping.specs.{Tidy}
use Rattle.theorem_keeping.proofs.Register.{tidy-same}
use Rattle.laws.proofs.Stores.{stored, stored_stands}

drop-replicate : {A : Type 0} (a : A) (n m : ℕ) → drop n (replicate m a) ≡ replicate (m - n) a
drop-replicate a zero m = let k : m ≡ m - 0 = omega arith in ap (λ (j : ℕ). replicate j a) k
drop-replicate a (suc n) zero = let k : 0 ≡ 0 - suc n = omega arith in ap (λ (j : ℕ). replicate j a) k
drop-replicate a (suc n) (suc m) = let k : m - n ≡ suc m - suc n = omega arith in drop-replicate a n m ∙ ap (λ (j : ℕ). replicate j a) k

module _ {A : Type 0} (empty : A) (places : ℕ) where
  module _ (xs : List A) (count : ℕ) (many : length xs ≡ count) (room : count ≤ places) where
    pub stored-tidy : Tidy empty places count (sets (replicate places empty) 0 xs)
    stored-tidy = record {
      long = length-sets (replicate places empty) 0 xs ∙ length-replicate places empty;
      unused =
          ap (drop count) (stored empty places xs count many room) ∙ drop_at xs (drop (length xs) (replicate places empty)) count many
          ∙ drop-replicate empty (length xs) places ∙ ap (λ (n : ℕ). replicate (places - n) empty) many;
    }

  pub tidy-taken : (count : ℕ) (l : List A) → count ≤ places → Tidy empty places count l → length (take count l) ≡ count
  tidy-taken count l room tidy = let long : length l ≡ places = tidy.long in length-take count l ∙ omega arith

  pub stored_again : (count : ℕ) (l : List A) → count ≤ places → Tidy empty places count l → sets (replicate places empty) 0 (take count l) ≡ l
  stored_again count l room tidy =
      let many = tidy-taken count l room tidy in
      tidy-same empty places count _ l (stored-tidy (take count l) count many room) tidy (stored_stands empty places (take count l) count many room)
