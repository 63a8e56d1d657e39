-- A sum of kilograms that has room is the sum of the numbers.
use Rattle.laws.proofs.{ℕ, ◌+◌, ◌≤◌, ◌≡◌, ap, ◌∙◌, arith}
use Rattle.units.specs.{Kilograms, most_kilograms, plus}

abbrev pub kilograms : ℕ → Kilograms
kilograms n = record { 0 = n }

abbrev pub number : Kilograms → ℕ
number stock = stock.0

plus_exact : (stock more : Kilograms) → stock.0 + more.0 ≤ most_kilograms → (plus stock more).0 ≡ stock.0 + more.0
unfolding plus
plus_exact stock more h = omega arith

-- of stocks that are known, with a bound of each
pub sum_is : (stock more sum : Kilograms) (x y a b : ℕ) → sum ≡ plus stock more → stock.0 ≡ x → more.0 ≡ y → stock.0 ≤ a → more.0 ≤ b → a + b ≤ most_kilograms
    → (sum.0 ≡ x + y) × (sum.0 ≤ a + b)
sum_is stock more sum x y a b e p q h k room =
    let exact = ap number e ∙ plus_exact stock more (omega arith) in (omega (arith, exact), omega (arith, exact))
