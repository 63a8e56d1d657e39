-- `units::nearest` meets its contract: the rest of a thousand counts as one from 500 on.
use Rattle.laws.proofs.{arith}
use Rattle.units.specs.{tonnes}
use Rattle.units.proofs.nearest.Goals as goal

pub returns : goal.returns
unfolding tonnes
returns c = omega arith
