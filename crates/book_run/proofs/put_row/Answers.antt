-- `book_run::put_row` meets its contract, by whether the line is exported.
use Rattle.laws.proofs.{arith}
use Rattle.text.proofs.Writes.{wrote_none, wrote_as}
use Rattle.book_export.proofs.Rows.{row_put, none_put}
use Rattle.book_run.proofs.put_row.Goals as goal

pub returns-then-is_exported : goal.returns-then-is_exported
returns-then-is_exported c =
    let a = c.args in
    wrote_as (row_put a.verdict a.parsed a.line.now _ c.is_exported.ensures c.if-is_exported.true) c.put_row.ensures

pub returns : goal.returns
returns c =
    let a = c.args in
    wrote_as (none_put a.verdict a.parsed a.line.now _ c.is_exported.ensures c.if-is_exported.false) (wrote_none _ _ (omega arith) (omega arith))
