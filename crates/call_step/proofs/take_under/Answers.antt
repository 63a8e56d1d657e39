-- `call_step::take_under` meets its contract: the verdict of the table, of the statement and of the step, and what the step leaves.
use Rattle.laws.proofs.{◌+◌, ◌-◌, ◌<◌, ◌≤◌, ◌≡◌, sym, ◌∙◌, arith, length}
use Rattle.std.proofs.lemmas.Result.{err_from_is_err_and}
use Rattle.schedules.specs.{schedule6}
use Rattle.step.specs.{acted}
use Rattle.call_output.proofs.Given.{gives_refused, gives_written, gives_as}
use Rattle.call_step.proofs.Acts.{step_weighed, step_places, step_written}
use Rattle.call_step.proofs.take_under.Goals as goal

-- where the verdict is clear, the places of the area lie in the bytes
pub slice_bounds-write_changed-count : goal.slice_bounds-write_changed-count
slice_bounds-write_changed-count c =
    let outcome = c.apply_to-outcome.ensures ∙ c.requires c.pass-passed.result.looked in
    (step_places c.args.own.now c.args.statement.now c.args.on _ _ _ _ _ c.pass-passed.ensures outcome c.least-stated_verdict.ensures
    c.judge-table_verdict.ensures c.least.ensures c.in_ok-least.was).0

pub slice_bounds-write_changed-start : goal.slice_bounds-write_changed-start
slice_bounds-write_changed-start c =
    let outcome = c.apply_to-outcome.ensures ∙ c.requires c.pass-passed.result.looked in
    omega (
      arith,
      step_places c.args.own.now c.args.statement.now c.args.on _ _ _ _ _ c.pass-passed.ensures outcome c.least-stated_verdict.ensures
          c.judge-table_verdict.ensures c.least.ensures c.in_ok-least.was,
    )

pub slice_bounds-write_changed-end : goal.slice_bounds-write_changed-end
slice_bounds-write_changed-end c =
    let outcome = c.apply_to-outcome.ensures ∙ c.requires c.pass-passed.result.looked in
    omega (
      arith,
      step_places c.args.own.now c.args.statement.now c.args.on _ _ _ _ _ c.pass-passed.ensures outcome c.least-stated_verdict.ensures
          c.judge-table_verdict.ensures c.least.ensures c.in_ok-least.was,
    )

pub slice_bounds-write_changed-count-2 : goal.slice_bounds-write_changed-count-2
slice_bounds-write_changed-count-2 c =
    let outcome = c.apply_to-outcome.ensures ∙ c.requires c.pass-passed.result.looked in
    (step_places c.args.own.now c.args.statement.now c.args.on _ _ _ _ _ c.pass-passed.ensures outcome c.least-stated_verdict.ensures
    c.judge-table_verdict.ensures c.least.ensures c.in_ok-least.was).2

pub slice_bounds-write_changed-start-2 : goal.slice_bounds-write_changed-start-2
slice_bounds-write_changed-start-2 c =
    let outcome = c.apply_to-outcome.ensures ∙ c.requires c.pass-passed.result.looked in
    omega (
      arith,
      step_places c.args.own.now c.args.statement.now c.args.on _ _ _ _ _ c.pass-passed.ensures outcome c.least-stated_verdict.ensures
          c.judge-table_verdict.ensures c.least.ensures c.in_ok-least.was,
    )

pub returns-in_err-least : goal.returns-in_err-least
returns-in_err-least c =
    let outcome = c.apply_to-outcome.ensures ∙ c.requires c.pass-passed.result.looked in
    let told = err_from_is_err_and c.from_residual.result c.from_residual.ensures.1 in
    rw (told.1, told.2)
    (gives_refused _ _ _ _
    (sym (step_weighed _ _ _ _ _ _ _ _ c.pass-passed.ensures outcome c.least-stated_verdict.ensures c.judge-table_verdict.ensures c.least.ensures)
    ∙ c.in_err-least.was))

pub returns : goal.returns
returns c =
    let outcome = c.apply_to-outcome.ensures ∙ c.requires c.pass-passed.result.looked in
    let clear = c.in_ok-least.was in
    gives_as (step_weighed _ _ _ _ _ _ _ _ c.pass-passed.ensures outcome c.least-stated_verdict.ensures c.judge-table_verdict.ensures c.least.ensures)
    (step_written _ _ _ _ _ _ _ _ c.pass-passed.ensures outcome c.least-stated_verdict.ensures c.judge-table_verdict.ensures c.least.ensures clear)
    (gives_written _ _ _ _ _ clear (c.write_changed.ensures.value, c.write_changed.ensures.out_after))
