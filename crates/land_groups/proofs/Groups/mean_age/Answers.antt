-- `land_groups::Groups::mean_age` meets its contract: the quotient of the weights, and one more from a rest of one half on.
use Rattle.laws.proofs.{◌∙◌, arith}
use native.Mathlib.Nat.{div-zero}
use Rattle.land_groups.specs.{half_up, mean_age}
use Rattle.land_groups.proofs.HalfUp.{rounds_down, rounds_up}
use Rattle.land_groups.proofs.Groups.mean_age.Goals as goal

pub returns-then-area-eq0 : goal.returns-then-area-eq0
unfolding half_up mean_age
returns-then-area-eq0 c = simp (← c.type_weights-area.ensures.0, c.if-area-eq0.true, div-zero)

pub returns-then-age-area : goal.returns-then-age-area
unfolding mean_age
returns-then-age-area c = rounds_down _ _ (omega arith) c.if-age-area.true ∙ simp (← c.type_weights-area.ensures.0)

pub returns : goal.returns
unfolding mean_age
returns c = rounds_up _ _ (omega arith) c.if-age-area.false ∙ simp (← c.type_weights-area.ensures.0)
