-- A quotient rounded half up: the quotient, and one more from a rest of one half on.
use Rattle.laws.proofs.{ℕ, ◌+◌, ◌*◌, ◌/◌, ◌%◌, ◌≤◌, ◌<◌, ◌≡◌, sym, arith}
use native.Mathlib.Nat.{mul_comm, add-mul, mul_left_comm, le-div_iff_mul-le, div-lt_iff_lt-mul, div-add-mod, mod-lt}
use Rattle.land_groups.specs.{half_up}

module _ (n d : ℕ) (positive : 0 < d) where
  -- a number that n/d reaches is reached, and one that it does not pass is not passed
  pub half_up_reaches : (m : ℕ) → m * (2 * d) ≤ 2 * n + d → m ≤ half_up n d
  unfolding half_up
  half_up_reaches m h = (le-div_iff_mul-le {k = 2 * d} {x = m} {y = 2 * n + d} (omega arith)).1 h

  pub half_up_keeps : (m : ℕ) → 2 * n + d < m * (2 * d) + 2 * d → half_up n d ≤ m
  unfolding half_up
  half_up_keeps m h =
      let below : (2 * n + d) / (2 * d) < m + 1
      = (div-lt_iff_lt-mul {k = 2 * d} {x = 2 * n + d} {y = m + 1} (omega arith)).1 (omega (arith, add-mul m 1 (2 * d))) in
      omega arith

  -- half up: the one number m with m − 1/2 ≤ n/d < m + 1/2
  pub half_up_lem : (m : ℕ) → m * (2 * d) ≤ 2 * n + d → 2 * n + d < m * (2 * d) + 2 * d → half_up n d ≡ m
  half_up_lem m low high = omega (arith, half_up_reaches m low, half_up_keeps m high)

  twice : n / d * (2 * d) + 2 * (n % d) ≡ 2 * n
  twice = omega (arith, div-add-mod n d, mul_left_comm (n / d) 2 d, mul_comm (n / d) d)

  -- "rounded up if a decimal of 0.5 or greater, and down otherwise" (002, 4.5)
  pub rounds_down : 2 * (n % d) < d → n / d ≡ half_up n d
  rounds_down h = sym (half_up_lem (n / d) (omega (arith, twice)) (omega (arith, twice)))

  pub rounds_up : d ≤ 2 * (n % d) → n / d + 1 ≡ half_up n d
  rounds_up h =
      let rest : n % d < d = mod-lt n positive in
      let more = add-mul (n / d) 1 (2 * d) in
      sym (half_up_lem (n / d + 1) (omega (arith, twice)) (omega (arith, twice)))
