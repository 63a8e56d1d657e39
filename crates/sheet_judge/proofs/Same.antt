-- Bytes and rows that are found the same are the same.
use Rattle.laws.proofs.{ℕ, ◌≡◌, refl, sym, ap, Bool, true, ◌&&◌, List, [], ◌∷◌, eqb, eqb-true}
use lib.Pointwise.{pointwise}
use Rattle.laws.proofs.Elements.{clash}
use Rattle.laws.proofs.Lists.{and_left, and_right}
use Rattle.sheet_read.specs.{Row}
use Rattle.sheet_judge.specs.{same_by, same_bytes, same_row}

same_by_lem : {A : Type 0} (same : A → A → Bool) → ((a b : A) → same a b ≡ true → a ≡ b) → (l m : List A) → same_by same l m ≡ true → l ≡ m
unfolding same_by
same_by_lem same one [] [] e = refl
same_by_lem same one [] (b ∷ m) e = clash (sym e)
same_by_lem same one (a ∷ l) [] e = clash (sym e)
same_by_lem same one (a ∷ l) (b ∷ m) e =
    let first = one a b (and_left (same a b) (same_by same l m) e) in
    let rest = same_by_lem same one l m (and_right (same a b) (same_by same l m) e) in
    cc

pub same_bytes_lem : (bs cs : List ℕ) → same_bytes bs cs ≡ true → bs ≡ cs
same_bytes_lem = same_by_lem eqb eqb-true

pub same_row_lem : (fs gs : Row) → same_row fs gs ≡ true → fs ≡ gs
same_row_lem = same_by_lem same_bytes same_bytes_lem

-- what the library finds of two lists is the same
pub pointwise_same : {A : Type 0} (same : A → A → Bool) (l m : List A) → pointwise same l m ≡ same_by same l m
unfolding same_by
pointwise_same same [] [] = refl
pointwise_same same [] (b ∷ m) = refl
pointwise_same same (a ∷ l) [] = refl
pointwise_same same (a ∷ l) (b ∷ m) = ap (λ (rest : Bool). same a b && rest) (pointwise_same same l m)
