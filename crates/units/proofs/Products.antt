-- A product of tenths, a rate and a small number fits 64 bits: each factor is below the power of two of its width.
use Rattle.laws.proofs.{ℕ, ◌*◌, ◌≤◌}
use native.Mathlib.Nat.{mul-le-mul}

pub product_fits : (land rate : ℕ) → land ≤ 4294967295 → rate ≤ 65535 → land * rate ≤ 4294967295 * 65535
product_fits land rate a b = mul-le-mul a b

pub stock-fits : (land rate share : ℕ) → land ≤ 4294967295 → rate ≤ 65535 → share ≤ 255 → land * rate * share ≤ 4294967295 * 65535 * 255
stock-fits land rate share a b s = mul-le-mul (mul-le-mul a b) s
