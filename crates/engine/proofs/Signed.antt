-- An `i64` that is a small number, or minus one.
use Rattle.laws.proofs.{◌≡◌, refl, sym, ap, subst, ◌∙◌, ℕ, zero, suc, ◌<◌, ◌^◌, arith, lt-ltb}
use lib.IntN.{ℤ, pos, negsuc, neg_ℤ, ◌-ℤ◌}
use mir.Syntax.{w64}
use mir.Val.{SFits, to_z, of_z}
use mir.Facts.{to_z-of_z, to_z_pos}

minus : (k : ℕ) → pos 0 -ℤ pos k ≡ neg_ℤ (pos k)
minus zero = refl
minus (suc k) = simp (lt-ltb 0 (suc k) (omega arith)) (ap negsuc (omega arith))

fits : (k : ℕ) → k < 2 ^ 63 → SFits w64 (neg_ℤ (pos k))
fits zero h = record { sfits = h }
fits (suc k) h = record { sfits = omega arith }

module _ {k : ℕ} (h : k < 2 ^ 63) where
  is_minus : pos 0 -ℤ to_z w64 k ≡ neg_ℤ (pos k)
  is_minus = ap (λ (z : ℤ). pos 0 -ℤ z) (to_z_pos w64 h) ∙ minus k

  pub minus_fits : SFits w64 (pos 0 -ℤ to_z w64 k)
  minus_fits = subst (SFits w64) (sym is_minus) (fits k h)

  pub minus_is : to_z w64 (of_z w64 (pos 0 -ℤ to_z w64 k)) ≡ neg_ℤ (pos k)
  minus_is = to_z-of_z {w = w64} minus_fits ∙ is_minus

  -- what a function answered, read back
  pub minus_read : to_z w64 (of_z w64 (neg_ℤ (pos k))) ≡ neg_ℤ (pos k)
  minus_read = to_z-of_z {w = w64} (fits k h)

  pub plus-read : to_z w64 (of_z w64 (pos k)) ≡ pos k
  plus-read = to_z-of_z {w = w64} (record { sfits = h })
