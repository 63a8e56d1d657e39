-- `step_add::add_sub` meets its contract, by the verdict on the area that was looked up; a clear one says that a place is free and the stock is bounded.
use Rattle.laws.proofs.{sym, ◌∙◌, arith, leb-false}
use Rattle.refusals.proofs.Laws.{ruled_out}
use Rattle.holding.specs.{most_subs}
use Rattle.statement_carried.proofs.Bounds.{bounds}
use Rattle.step_outcome.specs.{area_cases}
use Rattle.step_outcome.proofs.Laws.{refused, taken, fields-kept}
use Rattle.step_add.specs.{add_cases, added}
use Rattle.step_add.proofs.add_sub.Goals as goal

pub added_area-requires : goal.added_area-requires
unfolding add_cases area_cases
added_area-requires c =
    let looked = c.args.looked in
    let out = ruled_out _ (sym c.verdict-v.ensures ∙ c.in-Ok.is) in
    let b = bounds _ (fields-kept looked.found _ (out 3) (out 4)) in
    let free = leb-false most_subs looked.area.count (out 7) in
    (free, omega (arith, b.stock, free))

pub returns-in-Err : goal.returns-in-Err
unfolding added
returns-in-Err c = refused _ _ c.verdict-v.ensures _ _ _ c.turned.ensures c.in-Err.is

pub returns-in-Ok : goal.returns-in-Ok
unfolding added
returns-in-Ok c = taken _ _ c.verdict-v.ensures _ _ c.in-Ok.is (simp c.added_area.ensures)
