-- The column that a table's parts give is the table's own.
use Rattle.table_lent.proofs.Lent.{lent_column_lem}
use Rattle.table_lent.proofs.column.Goals as goal

pub returns : goal.returns
returns c = let e = lent_column_lem c.args.table.now c.args.number in cc
