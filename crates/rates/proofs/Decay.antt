-- The share of a residue is ten less the years, where a difference stops at nought; so it is the guide's for each number of years, and at most ten.
use Rattle.laws.proofs.{ℕ, zero, suc, ◌-◌, ◌≤◌, ◌≡◌, refl, ◌∙◌, Bool, true, false, cond, List, [], ◌∷◌, arith, ltb, ltb-true, get_or}
use Rattle.rates.specs.{share_after}

pub ten_less : (years : ℕ) → share_after years ≡ 10 - years
unfolding share_after
ten_less years = go (ltb 10 years) refl
  where
    go : (t : Bool) → ltb 10 years ≡ t → cond t 0 (10 - years) ≡ 10 - years
    go true past = omega (arith, ltb-true 10 years past)
    go false past = refl

-- the numbers from n down to nought
countdown : ℕ → List ℕ
countdown zero = 0 ∷ []
countdown (suc n) = suc n ∷ countdown n

counted_down : (n i : ℕ) → n - i ≡ get_or (countdown n) i 0
unfolding countdown
counted_down zero zero = refl
counted_down zero (suc i) = omega arith
counted_down (suc n) zero = omega arith
counted_down (suc n) (suc i) = omega (arith, counted_down n i)

-- the guide's T2 has "(10 − Tsc)/10", with Tsc "the number of years up to 10": its tenths for nought to ten years, and nought beyond
pub guide_shares : (years : ℕ) → share_after years ≡ get_or (10 ∷ 9 ∷ 8 ∷ 7 ∷ 6 ∷ 5 ∷ 4 ∷ 3 ∷ 2 ∷ 1 ∷ 0 ∷ []) years 0
unfolding countdown
guide_shares years = ten_less years ∙ counted_down 10 years

pub share_at_most : (years : ℕ) → share_after years ≤ 10
share_at_most years = omega (arith, ten_less years)
