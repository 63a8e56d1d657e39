-- `call_line::call` meets its contract: a T line by itself; of any other, a refused line decides, then bytes that are no numbers, and then the act.
use Rattle.std.specs.Prelude.{Ok}
use Rattle.laws.proofs.{sym, ap, ◌∙◌, arith}
use Rattle.std.proofs.lemmas.Result.{err_from_is_err_and}
use Rattle.line.proofs.Columns.{column_named}
use Rattle.call_answer.proofs.Order.{line_decides, table_decides}
use Rattle.call_answer.proofs.TableRead.{no_table, table-refused, table-few, table-lent}
use Rattle.call_line.proofs.Given.{call_refused, call_by, call_step}
use Rattle.call_line.proofs.call.Goals as goal

pub take_column-requires : goal.take_column-requires
take_column-requires c = sym c.is_column.ensures ∙ c.if-is_column.true

pub returns-then-is_column : goal.returns-then-is_column
returns-then-is_column c =
    let a = c.args in
    let all = call_by a.statement.now a.table.now a.line.now a.out.now _ _ c.take_column.ensures in
    record { value = all.0; out_after = all.1 }

pub returns-in_err-on : goal.returns-in_err-on
returns-in_err-on c =
    let a = c.args in
    let told = err_from_is_err_and c.from_residual.result c.from_residual.ensures.1 in
    let g = call_refused a.statement.now a.table.now a.line.now a.out.now _ (line_decides _ _ _ _ (sym c.parse.ensures ∙ c.in_err-on.was)) in
    record { value = rw (told.1, told.2) g.0; out_after = g.1 }

pub take_column-requires-in_default : goal.take_column-requires-in_default
take_column-requires-in_default c = column_named _ _ (sym c.parse.ensures ∙ c.in_ok-on.was ∙ ap Ok c.in_default.is)

pub returns-in_default : goal.returns-in_default
returns-in_default c =
    let a = c.args in
    let all = call_by a.statement.now a.table.now a.line.now a.out.now _ _ c.take_column-in_default.ensures in
    record { value = all.0; out_after = all.1 }

pub returns-then-table-eq0 : goal.returns-then-table-eq0
returns-then-table-eq0 c =
    let a = c.args in
    let none = no_table a.table.now c.if-table-eq0.true in
    let all = call_by a.statement.now a.table.now a.line.now a.out.now _ _
    (call_step a.statement.now a.table.now a.line.now a.out.now _ _ _ _
    (sym c.parse.ensures ∙ c.in_ok-on.was ∙ ap Ok c.in-On.is) none c.take_step.ensures) in
    record { value = all.0; out_after = all.1 }

pub slice_bounds-take_step-end-2 : goal.slice_bounds-take_step-end-2
slice_bounds-take_step-end-2 c =
    let decoded = c.decode.ensures in
    omega (arith, table-few c.args.table.now _ _ decoded.value decoded.out_after _ c.in_ok-count.was)

pub returns-in_err-count : goal.returns-in_err-count
returns-in_err-count c =
    let a = c.args in
    let decoded = c.decode.ensures in
    let told = err_from_is_err_and c.from_residual-in_err-count.result c.from_residual-in_err-count.ensures.1 in
    let all = call_refused a.statement.now a.table.now a.line.now a.out.now _
    (table_decides _ _ _ _ (sym c.parse.ensures ∙ c.in_ok-on.was ∙ ap Ok c.in-On.is) _
    (table-refused a.table.now _ _ decoded.value decoded.out_after _ c.in_err-count.was)) in
    record { value = rw (told.1, told.2) all.0; out_after = all.1 }

pub returns : goal.returns
returns c =
    let a = c.args in
    let decoded = c.decode.ensures in
    let lent = table-lent a.table.now _ _ decoded.value decoded.out_after _ c.in_ok-count.was in
    let all = call_by a.statement.now a.table.now a.line.now a.out.now _ _
    (call_step a.statement.now a.table.now a.line.now a.out.now _ _ _ _
    (sym c.parse.ensures ∙ c.in_ok-on.was ∙ ap Ok c.in-On.is) lent c.take_step-2.ensures) in
    record { value = all.0; out_after = all.1 }
