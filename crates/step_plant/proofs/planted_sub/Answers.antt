-- `step_plant::planted_sub` meets its contract: the residue stays.
use Rattle.laws.proofs.{refl}
use Rattle.step_plant.specs.{planted_sub}
use Rattle.step_plant.proofs.planted_sub.Goals as goal

pub returns : goal.returns
unfolding planted_sub
returns c = refl
