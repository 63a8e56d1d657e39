-- `call_line::take_column` meets its contract: a line that is refused as a T line decides, then bytes that are no numbers, and then the column of the
-- cells that were read.
use Rattle.laws.proofs.{ℕ, refl, sym, subst, ◌∙◌, take, replicate, arith}
use Rattle.std.proofs.lemmas.Result.{err_from_is_err_and}
use native.Mathlib.Nat.{sub-zero}
use Rattle.line.proofs.Columns.{column_refused, column_entered}
use Rattle.table_grow.specs.{line_cells}
use Rattle.table_grow.proofs.Cells.{Room, read-verdict, read_number, read-few, read-cells}
use Rattle.call_answer.proofs.Order.{line_decides, table_decides}
use Rattle.call_output.proofs.Given.{gives_refused}
use Rattle.call_answer.proofs.TableRead.{Lent, table-refused, table-lent}
use Rattle.call_line.proofs.Given.{call_column}
use Rattle.call_line.proofs.take_column.Goals as goal

pub slice_bounds-take_cells-end : goal.slice_bounds-take_cells-end
unfolding line_cells
slice_bounds-take_cells-end c =
    let read : Room c.args.line.now (replicate 101 0) c.read_column-read.new.cells c.read_column-read.result =
    record { places = refl; told = c.read_column-read.ensures.value; left = c.read_column-read.ensures.cells_after } in
    omega (arith, read-few read (sym (read-verdict read) ∙ c.in_ok-read.was))

pub returns-in_err-read : goal.returns-in_err-read
unfolding line_cells
returns-in_err-read c =
    let read : Room c.args.line.now (replicate 101 0) c.read_column-read.new.cells c.read_column-read.result =
    record { places = refl; told = c.read_column-read.ensures.value; left = c.read_column-read.ensures.cells_after } in
    let a = c.args in
    let told = err_from_is_err_and c.from_residual.result c.from_residual.ensures.1 in
    rw (told.1, told.2)
    (gives_refused _ _ _ _
    (line_decides a.statement.now a.table.now a.line.now _
    (column_refused a.line.now _ c.requires (sym (read-verdict read) ∙ c.in_err-read.was))))

pub returns-in_err-count : goal.returns-in_err-count
unfolding line_cells
returns-in_err-count c =
    let read : Room c.args.line.now (replicate 101 0) c.read_column-read.new.cells c.read_column-read.result =
    record { places = refl; told = c.read_column-read.ensures.value; left = c.read_column-read.ensures.cells_after } in
    let a = c.args in
    let clear = sym (read-verdict read) ∙ c.in_ok-read.was in
    let decoded = c.decode.ensures in
    let told = err_from_is_err_and c.from_residual-in_err-count.result c.from_residual-in_err-count.ensures.1 in
    rw (told.1, told.2)
    (gives_refused _ _ _ _
    (table_decides a.statement.now a.table.now a.line.now _ (column_entered a.line.now clear) _
    (table-refused a.table.now _ _ decoded.value decoded.out_after _ c.in_err-count.was)))

pub returns : goal.returns
unfolding line_cells
returns c =
    let read : Room c.args.line.now (replicate 101 0) c.read_column-read.new.cells c.read_column-read.result =
    record { places = refl; told = c.read_column-read.ensures.value; left = c.read_column-read.ensures.cells_after } in
    let a = c.args in
    let clear = sym (read-verdict read) ∙ c.in_ok-read.was in
    let decoded = c.decode.ensures in
    let lent = table-lent a.table.now _ _ decoded.value decoded.out_after _ c.in_ok-count.was in
    call_column a.statement.now a.table.now a.line.now a.out.now clear _ _ _ _ _ (read_number read clear) (read-cells read clear)
    (subst (λ (n : ℕ). Lent a.table.now (take n c.decode.new.out)) (sub-zero c.in_ok-count.count) lent)
    (rw (sub-zero c.read_column-read.result.count) at c.take_cells.ensures)
