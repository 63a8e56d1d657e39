-- The mean age of a type lies between the least and the greatest age of its groups: the weighted sums do, and rounding half up passes no whole number.
use Rattle.laws.proofs.{ℕ, ◌+◌, ◌*◌, ◌≤◌, ◌<◌, Bool, true, false, cond, ◌≡◌, refl, List, [], ◌∷◌, arith}
use mathlib.Core.List.{Memᴰ}
use native.Mathlib.Nat.{zero-add, mul-add, mul_left_comm, mul-le-mul_right}
use Rattle.laws.specs.{sum_by}
use Rattle.forest.specs.{Forest}
use Rattle.land_groups.specs.{Group, of_type, area, weighted_age, sum_over, weights_of, mean_age}
use Rattle.land_groups.proofs.HalfUp.{half_up_reaches, half_up_keeps}

-- every group of the type is between lo and hi years old
abbrev pub Between : List Group → Forest → ℕ → ℕ → Type 0
Between gs forest lo hi = (g : Group) → Memᴰ g gs → of_type forest g ≡ true → (lo ≤ g.age) × (g.age ≤ hi)

module _ (forest : Forest) (lo hi : ℕ) where
  weights_between : (gs : List Group) → Between gs forest lo hi
      → (lo * sum_over (of_type forest) area gs ≤ sum_over (of_type forest) weighted_age gs) × (sum_over (of_type forest) weighted_age gs ≤ hi * sum_over (of_type forest) area gs)
  unfolding sum_by
  weights_between [] b = (omega arith, omega arith)
  weights_between (g ∷ gs) b = go (of_type forest g) refl (weights_between gs (λ h m. b h (Memᴰ.tail m)))
    where
      A : ℕ
      A = sum_over (of_type forest) area gs

      W : ℕ
      W = sum_over (of_type forest) weighted_age gs

      go : (t : Bool) → of_type forest g ≡ t → (lo * A ≤ W) × (W ≤ hi * A)
          → (lo * (cond t (area g) 0 + A) ≤ cond t (weighted_age g) 0 + W) × (cond t (weighted_age g) 0 + W ≤ hi * (cond t (area g) 0 + A))
      go true e rest =
          let own = b g (Memᴰ.head refl) e in
          (omega (arith, mul-add lo (area g) A, mul-le-mul_right (area g) own.0), omega (arith, mul-add hi (area g) A, mul-le-mul_right (area g) own.1))
      go false e rest = (rw (zero-add A, zero-add W) rest.0, rw (zero-add A, zero-add W) rest.1)

  pub mean_between : (gs : List Group) → Between gs forest lo hi → 0 < sum_over (of_type forest) area gs → (lo ≤ mean_age gs forest) × (mean_age gs forest ≤ hi)
  unfolding weights_of mean_age
  mean_between gs b z =
      let A = sum_over (of_type forest) area gs in
      let W = sum_over (of_type forest) weighted_age gs in
      let w = weights_between gs b in
      (half_up_reaches W A z lo (omega (arith, w.0, mul_left_comm lo 2 A)), half_up_keeps W A z hi (omega (arith, w.1, mul_left_comm hi 2 A)))

-- a type that has a group with some basal area has some
pub area_positive : (forest : Forest) (g : Group) (gs : List Group) → Memᴰ g gs → of_type forest g ≡ true → 0 < area g → 0 < sum_over (of_type forest) area gs
unfolding sum_by
area_positive forest g [] x3 t z = elim x3 [ ]
area_positive forest g (h ∷ gs) (Memᴰ.head e) t z = rw (← e, t) (omega arith)
area_positive forest g (h ∷ gs) (Memᴰ.tail m) t z = omega (arith, area_positive forest g gs m t z)
