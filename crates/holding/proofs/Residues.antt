-- Where a residue is none, it is the one of bare land, age 0 and year 0: so what is shown of that one beside the empty list, and of every other beside
-- the list of it alone, holds of each residue beside its list.
use Rattle.laws.proofs.{ℕ, Bool, true, false, cond, ◌≡◌, refl, sym, subst, List, [], ◌∷◌, eqb-true, eqb}
use Rattle.laws.proofs.Lists.{and_left, and_right}
use Rattle.forest.specs.{Forest}
use Rattle.ranges.specs.{is_bare}
use Rattle.holding.specs.{Residue, no_residue, is_none, residues_in}

bare_type : (forest : Forest) → is_bare forest ≡ true → forest ≡ Forest.Bare
bare_type Forest.Bare e = refl
bare_type (Forest.Radiata region) e = cc
bare_type Forest.DouglasFir e = cc
bare_type Forest.ExoticSoftwoods e = cc
bare_type Forest.ExoticHardwoods e = cc
bare_type Forest.Indigenous e = cc

none_alone : (residue : Residue) → is_none residue ≡ true → residue ≡ no_residue
none_alone residue e =
    let nought = and_right (is_bare residue.forest) _ e in
    go (bare_type residue.forest (and_left _ _ e)) (eqb-true _ _ (and_left _ _ nought)) (eqb-true _ _ (and_right (eqb residue.age 0) _ nought))
  where
    go : {forest : Forest} {age year : ℕ} → forest ≡ Forest.Bare → age ≡ 0 → year ≡ 0 → record { forest = forest; age = age; year = year } ≡ no_residue
    go bare age year = cc

pub by_residue : (P : Residue → List Residue → Type 0) → P no_residue [] → ((residue : Residue) → is_none residue ≡ false → P residue (residue ∷ []))
    → (residue : Residue) → P residue (residues_in residue)
unfolding residues_in
by_residue P none one residue = go (is_none residue) refl
  where
    go : (t : Bool) → is_none residue ≡ t → P residue (cond t [] (residue ∷ []))
    go true e = subst (λ (r : Residue). P r []) (sym (none_alone residue e)) none
    go false e = one residue e
