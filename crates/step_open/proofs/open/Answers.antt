-- `step_open::open` meets its contract, by the verdict; a clear one says that a place is free.
use Rattle.laws.proofs.{◌<◌, sym, ◌∙◌, arith, leb-false}
use Rattle.holding.specs.{most_areas}
use Rattle.refusals.proofs.Laws.{ruled_out}
use Rattle.step_outcome.proofs.Laws.{refused, taken}
use Rattle.step_open.specs.{open_cases, opened}
use Rattle.step_open.proofs.open.Goals as goal

pub overflow_add-result : goal.overflow_add-result
unfolding open_cases
overflow_add-result c =
    let room : c.args.looked.count < most_areas = leb-false _ _ (ruled_out _ (sym c.verdict-v.ensures ∙ c.in-Ok.is) 4) in
    omega (arith, room)

pub returns-in-Err : goal.returns-in-Err
unfolding opened
returns-in-Err c = refused _ _ c.verdict-v.ensures _ _ _ c.turned.ensures c.in-Err.is

pub returns-in-Ok : goal.returns-in-Ok
unfolding opened
returns-in-Ok c = taken _ _ c.verdict-v.ensures _ _ c.in-Ok.is (simp c.empty_area-area.ensures)
