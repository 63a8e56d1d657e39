-- `table_extend::extend` meets its contract: a clear verdict leaves room for the longer table, and a refusal leaves the numbers.
use Rattle.laws.proofs.{sym, ◌∙◌}
use Rattle.std.proofs.lemmas.Result.{err_from_is_err_and}
use Rattle.refusals.proofs.Answers.{when_turned, when_clear}
use Rattle.table_extend.proofs.Longer.{clear_extensible}
use Rattle.table_extend.proofs.extend.Goals as goal

pub put_longer-requires : goal.put_longer-requires
put_longer-requires c =
    let e = clear_extensible _ _ _ _ (sym c.judge.ensures ∙ c.in_ok-judge.was) in
    record { column_lt_column_count = (e.in_range, e.whole); cells_len_bound = (e.short, e.room_for) }

pub returns-in_err-judge : goal.returns-in_err-judge
returns-in_err-judge c =
    let turned = when_turned _ _ c.args.numbers.now _ (sym c.judge.ensures ∙ c.in_err-judge.was) in
    let p = err_from_is_err_and c.from_residual.result c.from_residual.ensures.1 in
    rw (p.1, p.2) (record { value = turned.0; numbers_after = turned.1 })

pub returns : goal.returns
returns c =
    let done = when_clear _ _ c.args.numbers.now _ _ (sym c.judge.ensures ∙ c.in_ok-judge.was) c.put_longer.ensures.value c.put_longer.ensures.numbers_after in
    record { value = done.0; numbers_after = done.1 }
