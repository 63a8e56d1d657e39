-- The greatest age taken in order: the age so far, or the greatest of the groups left, is the greatest of all; past the groups, and after one group more.
use Rattle.laws.proofs.{ℕ, ◌+◌, ◌<◌, ◌≤◌, max, ◌≡◌, List, ◌∷◌, add-one, arith, length, drop, get_or, drop-cons, drop_of_length-le}
use Rattle.forest.specs.{Forest}
use Rattle.land_groups.specs.{Group}
use Rattle.land_ages.specs.{age_if, greatest_age}

module _ (forest : Forest) (gs : List Group) (i age whole : ℕ) (h : max age (greatest_age (drop i gs) forest) ≡ whole) where
  pub age_end : length gs ≤ i → age ≡ whole
  unfolding greatest_age
  age_end p = omega (arith, simp (drop_of_length-le gs {i = i} p) at h)

  pub age_more : (d : Group) (next : ℕ) → i < length gs → next ≡ max age (age_if forest (get_or gs i d)) → max next (greatest_age (drop (i + 1) gs) forest) ≡ whole
  unfolding greatest_age
  age_more d next p e =
      let rest : drop i gs ≡ get_or gs i d ∷ drop (i + 1) gs = rw (add-one, drop-cons gs i d) in
      omega (arith, rw rest at h)
