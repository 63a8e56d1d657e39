-- `step_file::file` meets its contract, by the verdict on the area that was looked up; a clear one bounds the year and the area's fields.
use Rattle.laws.proofs.{sym, ◌∙◌}
use Rattle.refusals.proofs.Laws.{ruled_out}
use Rattle.ranges.proofs.Laws.{year_at_most}
use Rattle.step_outcome.specs.{area_cases}
use Rattle.step_outcome.proofs.Laws.{refused, taken, fields-kept}
use Rattle.step_file.specs.{file_cases, filed}
use Rattle.step_file.proofs.file.Goals as goal

pub settle-settled-requires : goal.settle-settled-requires
unfolding file_cases area_cases
settle-settled-requires c =
    let out = ruled_out _ (sym c.verdict-v.ensures ∙ c.in-Ok.is) in
    (fields-kept c.args.looked.found _ (out 2) (out 3), year_at_most _ (out 1))

pub returns-in-Err : goal.returns-in-Err
unfolding filed
returns-in-Err c = refused _ _ c.verdict-v.ensures _ _ _ c.turned.ensures c.in-Err.is

pub returns-in-Ok : goal.returns-in-Ok
unfolding filed
returns-in-Ok c = taken _ _ c.verdict-v.ensures _ _ c.in-Ok.is (simp c.settle-settled.ensures)
