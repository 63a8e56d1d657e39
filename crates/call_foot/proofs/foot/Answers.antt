-- `call_foot::foot` meets its contract, by the verdict of the statement.
use Rattle.laws.proofs.{sym, ◌∙◌}
use Rattle.std.proofs.lemmas.Result.{err_from_is_err_and}
use Rattle.call_output.proofs.Given.{gives_refused, gives_written, gives_as}
use Rattle.call_foot.proofs.Written.{verdict_passed, units_passed}
use Rattle.call_foot.proofs.foot.Goals as goal

pub returns-in_err-passed : goal.returns-in_err-passed
returns-in_err-passed c =
    let told = err_from_is_err_and c.from_residual.result c.from_residual.ensures.1 in
    rw (told.1, told.2) (gives_refused _ _ _ _ (sym (verdict_passed _ _ c.pass-passed.ensures) ∙ c.in_err-passed.was))

pub returns : goal.returns
returns c =
    let pass = c.pass-passed in
    let wrote = c.write_foot.ensures in
    gives_as (verdict_passed _ _ pass.ensures) (units_passed _ _ pass.ensures)
    (gives_written _ _ _ _ _ c.in_ok-passed.was (wrote.value, wrote.out_after))
