-- The numbers that the elements of a list bear, stored from the front: one more stands after each turn, and those of the standing part
-- are distinct just where its elements bear distinct numbers.
use Rattle.laws.proofs.{ℕ, ◌+◌, ◌<◌, min, ◌≡◌, sym, ap, ◌∙◌, List, [], ◌∷◌, ◌++◌, map, ⊎_elim, arith, add-one, length, take, get_or, set, take-suc, take_all}
use mathlib.Core.List.{map-append}
use lib.Seq.{take-suc-set}
use Rattle.laws.specs.{distinct}
use Rattle.laws.proofs.Distinct.{distinct_borne}
use Rattle.laws.proofs.Order.{below_or_not}

-- as many as there are at most
least_stand : {A : Type 0} (l : List A) (count n : ℕ) → n ≡ min count (length l) → take n l ≡ take count l
least_stand l count n least =
    ⊎_elim
    (λ more. take_all n l (omega arith) ∙ sym (take_all count l (omega arith)))
    (λ few. let e : n ≡ count = omega arith in ap (λ (k : ℕ). take k l) e)
    (below_or_not (length l) count)

module _ {A : Type 0} (number_of : A → ℕ) where
  module _ (l : List A) (borne : List ℕ) where
    pub borne_more : (d : A) (i : ℕ) → i < length l → i < length borne → take i borne ≡ map number_of (take i l)
        → take (i + 1) (set borne i (number_of (get_or l i d))) ≡ map number_of (take (i + 1) l)
    borne_more d i p q e =
        let x = get_or l i d in
        rw (add-one, take-suc-set borne i (number_of x) q, take-suc l i d p)
        (ap (λ (m : List ℕ). m ++ (number_of x ∷ [])) e ∙ sym (map-append number_of (take i l) (x ∷ [])))

    pub standing_borne : (count i n : ℕ) → i ≡ min count (length l) → n ≡ i → take i borne ≡ map number_of (take i l)
        → distinct (λ (n : ℕ). n) (take n borne) ≡ distinct number_of (take count l)
    standing_borne count i n least all e =
        rw all (ap (distinct (λ (n : ℕ). n)) e ∙ distinct_borne number_of (take i l) ∙ ap (distinct number_of) (least_stand l count i least))
