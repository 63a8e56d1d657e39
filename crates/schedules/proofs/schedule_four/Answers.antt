-- `schedules::schedule_four` meets its contract: the constant's cells are the joined columns', which antt computes.
use Rattle.laws.proofs.{refl}
use Rattle.schedules.specs.{joined, stock4, schedule4}
use Rattle.schedules.proofs.schedule_four.Goals as goal

pub returns : goal.returns
unfolding schedule4 joined stock4
returns c = refl
