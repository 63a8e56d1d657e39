-- Rounding: the engine's change is the rounded difference, no change strays by more than half a tonne, and halves are fixed.
use Rattle.laws.proofs.{◌≡◌, refl, sym, ap, ◌∙◌, Bool, true, false, cond, ℕ, zero, suc, ◌+◌, ◌*◌, ◌-◌, ◌/◌, ◌≤◌, ◌<◌, arith, leb, leb-true, leb-false}
use lib.IntN.{ℤ, pos, negsuc, neg_ℤ, nat_abs, ◌-ℤ◌, ◌*ℤ◌}
use Rattle.laws.proofs.Signed.{ints, ℤ-same, one_side, neg_read, diff_read, times_read, abs_read}
use Rattle.units.specs.{Kilograms, tonnes, nearest_tonne, value, change_between, Change}

-- halves up: the tonnes are the one number t with 1000 t - 500 ≤ kg < 1000 t + 500
pub tonnes_halves_up : (kg t : ℕ) → 1000 * t ≤ kg + 500 → kg + 500 < 1000 * t + 1000 → tonnes kg ≡ t
unfolding tonnes
tonnes_halves_up kg t low high = omega arith

-- halves away from zero: a loss rounds as the gain of its size does
pub nearest_of_loss : (kg : ℕ) → nearest_tonne (neg_ℤ (pos kg)) ≡ neg_ℤ (pos (tonnes kg))
unfolding nearest_tonne tonnes
nearest_of_loss zero = refl
nearest_of_loss (suc kg) = refl

-- |1000 · change − difference| ≤ 500
pub within_half : (z : ℤ) → nat_abs (pos 1000 *ℤ nearest_tonne z -ℤ z) ≤ 500
unfolding nearest_tonne tonnes
within_half (pos kg) =
    let t : ℤ = pos ((kg + 500) / 1000) in
    omega (ints, times_read 1000 t, diff_read (pos 1000 *ℤ t) (pos kg), abs_read (pos 1000 *ℤ t -ℤ pos kg), one_side (pos 1000 *ℤ t -ℤ pos kg))
within_half (negsuc kg) =
    let t : ℤ = neg_ℤ (pos ((suc kg + 500) / 1000)) in
    omega (ints, neg_read (pos ((suc kg + 500) / 1000)), times_read 1000 t, diff_read (pos 1000 *ℤ t) (negsuc kg), abs_read (pos 1000 *ℤ t -ℤ negsuc kg), one_side (pos 1000 *ℤ t -ℤ negsuc kg))

-- the engine's change is worth the rounded difference
module _ (opening closing : ℕ) where
  by_order : (t : Bool) → leb opening closing ≡ t
      → value (cond t (Change.Gain (tonnes (closing - opening))) (Change.Loss (tonnes (opening - closing)))) ≡ nearest_tonne (pos closing -ℤ pos opening)
  unfolding value nearest_tonne
  by_order true e =
      let h : opening ≤ closing = leb-true opening closing e in
      ap nearest_tonne (ℤ-same (pos (closing - opening)) (pos closing -ℤ pos opening) (omega (arith, diff_read (pos closing) (pos opening))))
  by_order false e =
      let h : closing < opening = leb-false opening closing e in
      let loss : ℤ = neg_ℤ (pos (opening - closing)) in
      sym (nearest_of_loss (opening - closing))
      ∙ ap nearest_tonne (ℤ-same loss (pos closing -ℤ pos opening) (omega (arith, neg_read (pos (opening - closing)), diff_read (pos closing) (pos opening))))

pub change-value : (opening closing : Kilograms) → value (change_between opening closing) ≡ nearest_tonne (pos closing.0 -ℤ pos opening.0)
unfolding change_between
change-value opening closing = by_order opening.0 closing.0 (leb opening.0 closing.0) refl
