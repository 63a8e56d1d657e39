-- `call_line::write_longer` meets its contract: what is written stands in front of the numbers.
use Rattle.laws.proofs.{◌≡◌, refl, ap, arith, length}
use Rattle.std.proofs.lemmas.Result.{err_from_is_err_and}
use Rattle.table.specs.{longest_table}
use Rattle.call_output.specs.{table_bytes}
use Rattle.call_output.proofs.Given.{gives_refused, gives_written, gives_as}
use Rattle.call_line.proofs.Extended.{not_extended, extended, front, fits}
use Rattle.call_line.proofs.write_longer.Goals as goal

pub slice_bounds-write_table-end : goal.slice_bounds-write_table-end
slice_bounds-write_table-end c =
    let long : length c.args.numbers.now ≡ longest_table = omega arith in
    let a = c.args in
    let e = c.extend.ensures in
    fits a.numbers.now long a.count a.column a.cells.now _ _ (e.value, e.numbers_after) _ c.in_ok-many.was

pub returns-in_err-many : goal.returns-in_err-many
returns-in_err-many c =
    let long : length c.args.numbers.now ≡ longest_table = omega arith in
    let a = c.args in
    let e = c.extend.ensures in
    let told = err_from_is_err_and c.from_residual.result c.from_residual.ensures.1 in
    rw (told.1, told.2)
    (gives_refused _ _ _ _ (not_extended a.numbers.now long a.count a.column a.cells.now _ _ (e.value, e.numbers_after) _ c.in_err-many.was))

pub returns : goal.returns
returns c =
    let long : length c.args.numbers.now ≡ longest_table = omega arith in
    let a = c.args in
    let e = c.extend.ensures in
    let was = c.in_ok-many.was in
    gives_as refl (ap table_bytes (front a.numbers.now long a.count a.column a.cells.now _ _ (e.value, e.numbers_after) _ was))
    (gives_written _ _ _ _ _ (extended a.numbers.now long a.count a.column a.cells.now _ _ (e.value, e.numbers_after) _ was)
    (c.write_table.ensures.value, c.write_table.ensures.out_after))
