-- `line::read_column` meets its contract: what is no T line, too long or broken is refused, and of any other line the fields decide.
use Rattle.line.proofs.Columns.{no_column_lem, column_line}
use Rattle.line.proofs.read_column.Goals as goal

pub returns-then-other-inner : goal.returns-then-other-inner
returns-then-other-inner c =
    let none = no_column_lem _ _ c.body-inner.ensures _ c.letter-other.ensures _ c.holds-broken.ensures c.if-other-inner.true c.args.cells.now in
    record { value = none.0; cells_after = none.1 }

pub returns : goal.returns
returns c =
    let read =
    column_line _ _ c.body-inner.ensures _ c.letter-other.ensures _ c.holds-broken.ensures c.if-other-inner.false _ _ c.args.cells.now
    c.read_column.ensures.value c.read_column.ensures.cells_after
    in
    record { value = read.0; cells_after = read.1 }
