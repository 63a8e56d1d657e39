-- `step_clear::clear` meets its contract, by the verdict on the area that was looked up: the sub-area found is put back as the clearing leaves it.
use Rattle.step_outcome.proofs.Laws.{refused, taken}
use Rattle.step_clear.specs.{cleared_area, cleared}
use Rattle.step_clear.proofs.clear.Goals as goal

pub returns-in-Err : goal.returns-in-Err
unfolding cleared
returns-in-Err c = refused _ _ c.verdict-v.ensures _ _ _ c.turned.ensures c.in-Err.is

pub returns-in-Ok : goal.returns-in-Ok
unfolding cleared cleared_area
returns-in-Ok c =
    let stand = c.find_stand-stand.ensures in
    taken _ _ c.verdict-v.ensures _ _ c.in-Ok.is
    (simp (c.with_sub.ensures, c.cleared_sub.ensures, stand.sub_value, stand.found_value))
