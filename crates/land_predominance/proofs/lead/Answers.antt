-- `land_predominance::lead` meets its contract, by whether the group's species comes before the leader's.
use Rattle.land_predominance.specs.{leading}
use Rattle.land_predominance.proofs.lead.Goals as goal

pub returns-then-comes_before : goal.returns-then-comes_before
unfolding leading
returns-then-comes_before c =
    let b = c in
    simp (← b.species_area-total.ensures, ← b.species_area-most.ensures, ← b.comes_before.ensures, c.if-comes_before.true)

pub returns : goal.returns
unfolding leading
returns c =
    let b = c in
    simp (← b.species_area-total.ensures, ← b.species_area-most.ensures, ← b.comes_before.ensures, c.if-comes_before.false)
