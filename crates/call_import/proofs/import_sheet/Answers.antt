-- `call_import::import_sheet` meets its contract: bytes that are no numbers decide, and else the import under the numbers that were read.
use Rattle.laws.proofs.{arith}
use Rattle.std.proofs.lemmas.Result.{err_from_is_err_and}
use Rattle.call_output.proofs.Given.{gives_refused}
use Rattle.call_answer.proofs.TableRead.{no_table, table-refused, table-few, table-lent}
use Rattle.call_import.proofs.Given.{table_decides, import_under}
use Rattle.call_import.proofs.import_sheet.Goals as goal

pub returns-then-table-eq0 : goal.returns-then-table-eq0
returns-then-table-eq0 c =
    let a = c.args in
    import_under a.statement.now a.table.now a.sheet.now _ a.out.now _ _ (no_table a.table.now c.if-table-eq0.true) c.import_under.ensures

pub slice_bounds-import_under-end-2 : goal.slice_bounds-import_under-end-2
slice_bounds-import_under-end-2 c =
    let decoded = c.decode.ensures in
    omega (arith, table-few c.args.table.now _ _ decoded.value decoded.out_after _ c.in_ok-count.was)

pub returns-in_err-count : goal.returns-in_err-count
returns-in_err-count c =
    let a = c.args in
    let decoded = c.decode.ensures in
    let told = err_from_is_err_and c.from_residual.result c.from_residual.ensures.1 in
    rw (told.1, told.2)
    (gives_refused _ _ _ _
    (table_decides a.statement.now a.table.now a.sheet.now _ (table-refused a.table.now _ _ decoded.value decoded.out_after _ c.in_err-count.was)))

pub returns : goal.returns
returns c =
    let a = c.args in
    let decoded = c.decode.ensures in
    import_under a.statement.now a.table.now a.sheet.now _ a.out.now _ _
    (table-lent a.table.now _ _ decoded.value decoded.out_after _ c.in_ok-count.was) c.import_under-2.ensures
