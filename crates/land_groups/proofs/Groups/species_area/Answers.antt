-- `land_groups::Groups::species_area` meets its contract: the sum so far and that of the groups left make the species' total.
use Rattle.laws.proofs.{arith, rules}
use Rattle.land_groups.specs.{species_area}
use Rattle.land_groups.proofs.Turns.{sum_end, sum_more}
use Rattle.land_groups.proofs.Groups.species_area.Goals as goal

pub loop-g-init : goal.loop-g-init
unfolding species_area
loop-g-init c = (omega arith, search rules)

pub loop-g-preserved : goal.loop-g-preserved
loop-g-preserved c =
    (sum_more _ _ _ _ _ c.loop-g.invariant.0 _ _ c.loop-g-test.true c.area_if-sum.ensures.0, omega arith)

pub returns : goal.returns
returns c = sum_end _ _ _ _ _ c.loop-g.invariant.0 c.loop-g-test.false
