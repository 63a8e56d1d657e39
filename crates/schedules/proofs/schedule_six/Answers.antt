-- `schedules::schedule_six` meets its contract: the constant's cells are the joined columns', which antt computes.
use Rattle.laws.proofs.{refl}
use Rattle.schedules.specs.{joined, stock6, residue6, schedule6}
use Rattle.schedules.proofs.schedule_six.Goals as goal

pub returns : goal.returns
unfolding schedule6 joined stock6 residue6
returns c = refl
