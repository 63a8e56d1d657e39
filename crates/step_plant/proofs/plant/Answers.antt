-- `step_plant::plant` meets its contract, by the verdict on the area that was looked up: the sub-area found is put back with its new trees.
use Rattle.step_outcome.proofs.Laws.{refused, taken}
use Rattle.step_plant.specs.{planted_area, planted}
use Rattle.step_plant.proofs.plant.Goals as goal

pub returns-in-Err : goal.returns-in-Err
unfolding planted
returns-in-Err c = refused _ _ c.verdict-v.ensures _ _ _ c.turned.ensures c.in-Err.is

pub returns-in-Ok : goal.returns-in-Ok
unfolding planted planted_area
returns-in-Ok c =
    let stand = c.find_stand-stand.ensures in
    taken _ _ c.verdict-v.ensures _ _ c.in-Ok.is
    (simp (c.with_sub.ensures, c.planted_sub.ensures, stand.sub_value, stand.found_value))
