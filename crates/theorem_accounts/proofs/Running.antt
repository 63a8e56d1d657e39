-- One change more at the end: the sum grows by it, and the lowest is the lesser of the lowest before and the new sum. The lowest is at most
-- nought and every running sum, and is one of these.
use Rattle.laws.proofs.{Bool, true, false, cond, ◌⊎◌, inl, inr, ◌≡◌, refl, ap, ◌∙◌, List, [], ◌∷◌, ◌++◌}
use mathlib.Core.List.{foldl}
use lib.IntN.{ℤ, pos, ◌+ℤ◌}
use lib.Signed.{le_z, ◌≤ℤ◌, ≤ℤ_refl}
use Rattle.laws.proofs.Signed.{ints, min-read}
use Rattle.laws.proofs.Choosing.{Choice, Best, chosen_best}
use Rattle.theorem_ledger.specs.{lesser}
use Rattle.theorem_accounts.specs.{total, sums_from, running_sums, lowest}

fold_more : {A B : Type 0} (f : B → A → B) (b : B) (l : List A) (x : A) → foldl f b (l ++ (x ∷ [])) ≡ f (foldl f b l) x
fold_more f b [] x = refl
fold_more f b (a ∷ l) x = fold_more f (f b a) l x

sums_more : (sum : ℤ) (changes : List ℤ) (x : ℤ)
    → sums_from sum (changes ++ (x ∷ [])) ≡ sums_from sum changes ++ ((foldl ◌+ℤ◌ sum changes +ℤ x) ∷ [])
unfolding sums_from
sums_more sum [] x = refl
sums_more sum (y ∷ changes) x = ap (λ (l : List ℤ). (sum +ℤ y) ∷ l) (sums_more (sum +ℤ y) changes x)

module _ (changes : List ℤ) (x : ℤ) where
  pub total-more : total (changes ++ (x ∷ [])) ≡ total changes +ℤ x
  unfolding total
  total-more = fold_more ◌+ℤ◌ (pos 0) changes x

  pub lowest-more : lowest (changes ++ (x ∷ [])) ≡ lesser (lowest changes) (total changes +ℤ x)
  unfolding total lowest
  lowest-more =
      ap (foldl lesser (pos 0)) (sums_more (pos 0) changes x)
      ∙ fold_more lesser (pos 0) (running_sums changes) (foldl ◌+ℤ◌ (pos 0) changes +ℤ x)

lesser_chosen : (a b : ℤ) → Choice ◌≤ℤ◌ a b (lesser a b)
lesser_chosen a b = record { one = go (le_z a b); over_best = omega (ints, min-read a b); over_other = omega (ints, min-read a b) }
  where
    go : (t : Bool) → (cond t a b ≡ a) ⊎ (cond t a b ≡ b)
    go true = inl refl
    go false = inr refl

pub lowest_is_least : (changes : List ℤ) → Best ◌≤ℤ◌ (pos 0 ∷ running_sums changes) (lowest changes)
unfolding lowest
lowest_is_least changes =
    chosen_best ◌≤ℤ◌ (record { self = ≤ℤ_refl; carries = λ a b c h k. omega ints }) lesser lesser_chosen (pos 0) (running_sums changes)
