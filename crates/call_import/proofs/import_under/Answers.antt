-- `call_import::import_under` meets its contract: the table decides first, and then the import onto the statement.
use Rattle.laws.proofs.{refl}
use Rattle.std.proofs.lemmas.Result.{err_from_is_err_and}
use Rattle.call_output.proofs.Given.{gives_refused, gives_as}
use Rattle.call_import.proofs.Given.{under-refused, under_clear}
use Rattle.call_import.proofs.import_under.Goals as goal

pub returns-in_err-judge : goal.returns-in_err-judge
returns-in_err-judge c =
    let told = err_from_is_err_and c.from_residual.result c.from_residual.ensures.1 in
    rw (told.1, told.2) (gives_refused _ _ _ _ (under-refused _ _ _ _ c.judge.ensures _ c.in_err-judge.was))

pub returns : goal.returns
returns c = gives_as (under_clear _ _ _ _ c.judge.ensures c.in_ok-judge.was) refl c.import.ensures
