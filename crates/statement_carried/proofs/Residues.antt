-- What is carried of the residues of a sub-area, by the type that it holds: bare land has age 0 and year 0, and any other type its ranges.
use Rattle.laws.proofs.{Bool, true, false, not, cond, ◌&&◌, ◌≡◌, refl, sym, ◌∙◌, List, [], ◌∷◌, eqb, leb}
use mathlib.Core.Bool.{and-true}
use Rattle.laws.specs.{every, all_of}
use Rattle.ranges.specs.{is_bare}
use Rattle.holding.specs.{Residue, Area, is_none, residues_in}
use Rattle.holding.proofs.Residues.{by_residue}
use Rattle.statement_carried.specs.{oldest_residue, residue_carried}

abbrev pub nought : Residue → Bool
nought residue = all_of (eqb residue.age 0 ∷ eqb residue.year 0 ∷ [])

abbrev ranges : Area → Residue → List Bool
ranges area residue = leb area.opening residue.year ∷ leb residue.year area.latest ∷ leb residue.age oldest_residue ∷ []

abbrev pub ranged : Area → Residue → Bool
ranged area residue = all_of (ranges area residue)

module _ (area : Area) where
  abbrev ByType : Residue → List Residue → Type 0
  ByType residue residues = every (residue_carried area) residues ≡ cond (is_bare residue.forest) (nought residue) (ranged area residue)

  some-carried : (residue : Residue) → is_none residue ≡ false → ByType residue (residue ∷ [])
  unfolding every residue_carried all_of
  some-carried residue some = and-true _ ∙ go (is_bare residue.forest) some
    where
      go : (bare : Bool) → (bare && nought residue) ≡ false → all_of (not bare ∷ ranges area residue) ≡ cond bare (nought residue) (ranged area residue)
      go true some = sym some
      go false some = refl

  pub residues_carried : (residue : Residue) → ByType residue (residues_in residue)
  unfolding every all_of
  residues_carried = by_residue ByType refl some-carried
