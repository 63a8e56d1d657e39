-- `step::enter` meets its contract, by the smaller verdict of the table's and the act's, on the area that the act names.
use Rattle.step.proofs.Entered.{entered-refused, entered-taken}
use Rattle.step.proofs.enter.Goals as goal

pub returns-in-Err : goal.returns-in-Err
returns-in-Err c =
    entered-refused _ _ _ _ _ _ _ _ c.schedule_six-default.ensures c.look_up-looked.ensures c.apply_to-outcome.ensures c.judge-table_verdict.ensures
    c.least-v.ensures _ _ c.turned.ensures c.in-Err.is

pub returns-in-Ok : goal.returns-in-Ok
returns-in-Ok c =
    entered-taken _ _ _ _ _ _ _ _ c.schedule_six-default.ensures c.look_up-looked.ensures c.apply_to-outcome.ensures c.judge-table_verdict.ensures
    c.least-v.ensures c.in-Ok.is
