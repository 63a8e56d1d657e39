-- The predominant species is in the list, no other has a greater total, and none with the same total has a lower number:
-- of two groups the leading one is ahead of both, and being ahead carries over.
use Rattle.laws.proofs.{◌≤◌, Bool, true, false, cond, inl, inr, ◌≡◌, refl, List, ◌∷◌, arith, ltb-true, ltb-false, ltb}
use Rattle.laws.proofs.Choosing.{Choice, Best, chosen_best, outranks_true, outranks_false}
use Rattle.land_groups.specs.{Group, species_area}
use Rattle.land_predominance.specs.{precedes, leading, predominant_of}

-- a group's species has no smaller total than another's, and no higher number where the totals are the same
pub record Ahead (gs : List Group) (g h : Group) : Type 0 where
  pub greatest : species_area gs h.species ≤ species_area gs g.species
  pub lowest : species_area gs h.species ≡ species_area gs g.species → g.species ≤ h.species

module _ (gs : List Group) where
  self_ahead : (g : Group) → Ahead gs g g
  self_ahead g = record { greatest = omega arith; lowest = λ e. omega arith }

  ahead_carries : (f g h : Group) → Ahead gs f g → Ahead gs g h → Ahead gs f h
  ahead_carries f g h p q = record {
    greatest = omega arith;
    lowest = λ e. omega (arith, p.lowest (omega arith), q.lowest (omega arith));
  }

  leading_choice : (leader g : Group) → Choice (Ahead gs) leader g (leading gs leader g)
  unfolding leading
  leading_choice leader g = go (precedes gs g leader) refl
    where
      go : (b : Bool) → precedes gs g leader ≡ b → Choice (Ahead gs) leader g (cond b g leader)
      go true e =
          let o = outranks_true (species_area gs g.species) (species_area gs leader.species) (ltb g.species leader.species) e in
          record {
            one = inr refl;
            over_best = record { greatest = o.0; lowest = λ z. omega (arith, ltb-true g.species leader.species (o.1 z)) };
            over_other = self_ahead g;
          }
      go false e =
          let o = outranks_false (species_area gs g.species) (species_area gs leader.species) (ltb g.species leader.species) e in
          record {
            one = inl refl;
            over_best = self_ahead leader;
            over_other = record { greatest = o.0; lowest = λ z. ltb-false g.species leader.species (o.1 z) };
          }

pub predominant_best : (g : Group) (gs : List Group) → Best (Ahead (g ∷ gs)) (g ∷ gs) (predominant_of (g ∷ gs))
unfolding predominant_of
predominant_best g gs = let all = g ∷ gs in chosen_best (Ahead all) (record { self = self_ahead all; carries = ahead_carries all }) (leading all) (leading_choice all) g gs
