-- `land_ages::hectare_age` meets its contract, by the leader's type.
use Rattle.land_ages.specs.{hectare_age}
use Rattle.land_ages.proofs.hectare_age.Goals as goal

pub returns-then-is_of : goal.returns-then-is_of
unfolding hectare_age
returns-then-is_of c = simp (← c.is_of.ensures, c.if-is_of.true, c.from.ensures, c.greatest_age.ensures, c.first-groups.ensures)

pub returns : goal.returns
unfolding hectare_age
returns c = simp (← c.is_of.ensures, c.if-is_of.false, c.mean_age.ensures, c.first-groups.ensures)
