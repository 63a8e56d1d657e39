-- `table_grow::grow` meets its contract: a line that is no T line is refused as it was read, and the column and the cells of any other are the line's.
use Rattle.std.specs.Prelude.{Ok}
use Rattle.laws.proofs.{◌≤◌, ◌≡◌, refl, sym, ◌∙◌, replicate, take, length-take, arith}
use Rattle.std.proofs.lemmas.Result.{err_from_is_err_and}
use Rattle.table_grow.specs.{line_cells}
use Rattle.table_grow.proofs.Cells.{Room, read-verdict, read_number, read-few, read-cells}
use Rattle.table_grow.proofs.Growth.{no_column_lem, column_read_lem}
use Rattle.table_grow.proofs.grow.Goals as goal
use Rattle.table_grow.proofs.grow.Goals.{After-read_column-read}

-- what was read of the line
has_read : (c : After-read_column-read) → Room c.args.line.now (replicate 101 0) c.read_column-read.new.cells c.read_column-read.result
unfolding line_cells
has_read c = record { places = refl; told = c.read_column-read.ensures.value; left = c.read_column-read.ensures.cells_after }

-- where it is clear the places hold as many cells as it counts
fits : (c : After-read_column-read) → c.read_column-read.result.verdict ≡ Ok tt → c.read_column-read.result.count ≤ 101
fits c clear = let read = has_read c in read-few read (sym (read-verdict read) ∙ clear)

pub slice_bounds-cells-end : goal.slice_bounds-cells-end
slice_bounds-cells-end c = omega (arith, fits (goal.at.slice_bounds-cells-end c).After-read_column-read c.in_ok-read.was)

pub slice_bounds-grow_by-end : goal.slice_bounds-grow_by-end
slice_bounds-grow_by-end c =
    let read = c.read_column-read in
    omega (arith, length-take read.result.count read.new.cells, fits (goal.at.slice_bounds-grow_by-end c).After-read_column-read c.in_ok-read.was)

pub returns-in_err-read : goal.returns-in_err-read
returns-in_err-read c =
    let a = c.args in
    let read = has_read (goal.at.returns-in_err-read c).After-read_column-read in
    let refused = no_column_lem (take a.count a.numbers.now) a.areas a.line.now a.numbers.now _ (sym (read-verdict read) ∙ c.in_err-read.was) in
    let p = err_from_is_err_and c.from_residual.result c.from_residual.ensures.1 in
    rw (p.1, p.2) (record { value = refused.0; numbers_after = refused.1 })

pub returns : goal.returns
returns c =
    let a = c.args in
    let read = has_read (goal.at.returns c).After-read_column-read in
    let clear = sym (read-verdict read) ∙ c.in_ok-read.was in
    let e = c.grow_by.ensures in
    let grown =
    column_read_lem (take a.count a.numbers.now) a.areas a.line.now _ _ _ _ _ clear (read_number read clear) (read-cells read clear)
    (e.value, e.numbers_after)
    in
    record { value = grown.0; numbers_after = grown.1 }
