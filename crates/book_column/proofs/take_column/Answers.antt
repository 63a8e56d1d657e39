-- `book_column::take_column` meets its contract, by what the table that grows answers.
use Rattle.std.proofs.lemmas.Result.{err_from_is_err_and}
use Rattle.book_column.specs.{column_numbers}
use Rattle.book_column.proofs.Columns.{column_accepted, column_refused}
use Rattle.book_column.proofs.take_column.Goals as goal

pub returns-in_err-count : goal.returns-in_err-count
unfolding column_numbers
returns-in_err-count c =
    let a = c.args in
    let told = err_from_is_err_and c.from_residual.result c.from_residual.ensures.1 in
    let column = column_refused a.table.now a.count.now a.areas a.line.now _ c.grow.ensures.value _ c.in_err-count.was in
    record { value = rw (told.1, told.2) column.0; table_after = c.grow.ensures.numbers_after; count_after = column.1 }

pub returns : goal.returns
unfolding column_numbers
returns c =
    let a = c.args in
    let column = column_accepted a.table.now a.count.now a.areas a.line.now _ c.grow.ensures.value _ c.in_ok-count.was in
    record { value = column.0; table_after = c.grow.ensures.numbers_after; count_after = column.1 }
