-- `land_ages::greatest_age` meets its contract: the age so far, or the greatest of the groups left, is the greatest of all.
use Rattle.land_ages.proofs.Turns.{age_end, age_more}
use Rattle.land_ages.proofs.greatest_age.Goals as goal

pub loop-g-preserved : goal.loop-g-preserved
loop-g-preserved c = age_more _ _ _ _ _ c.loop-g.invariant _ _ c.loop-g-test.true c.older_age-age.ensures

pub returns : goal.returns
returns c = age_end _ _ _ _ _ c.loop-g.invariant c.loop-g-test.false
