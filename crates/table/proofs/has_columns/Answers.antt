-- `table::has_columns` meets its contract, test by test.
use Rattle.laws.proofs.{arith, lt-leb, le-leb}
use lib.Seq.{take-take}
use Rattle.table_parts.proofs.Parts.{to_the_end}
use Rattle.table.specs.{has_columns}
use Rattle.table.proofs.has_columns.Goals as goal

pub returns-then-table-lt-COLUMNS : goal.returns-then-table-lt-COLUMNS
unfolding has_columns
returns-then-table-lt-COLUMNS c = simp (lt-leb _ _ c.if-table-lt-COLUMNS.true)

pub returns : goal.returns
unfolding has_columns
returns c =
    let t = c.args.table.now in
    simp (
      le-leb _ _ c.if-table-lt-COLUMNS.false,
      c.cells_before.ensures,
      take-take 10 10 t (omega arith),
      c.each_at_most-short.ensures,
      c.each_at_most-low.ensures,
      to_the_end t 10,
    )
