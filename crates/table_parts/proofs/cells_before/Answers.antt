-- `table_parts::cells_before` meets its contract. The loop's invariant: the sum so far and the sum of what is left of the lengths make the whole.
use Rattle.laws.proofs.{ap, ◌∙◌, arith, drop_of_length-le}
use Rattle.laws.specs.{sum_of}
use Rattle.table_parts.proofs.Lengths.{lengths_cut}
use Rattle.table_parts.proofs.cells_before.Goals as goal

pub returns : goal.returns
unfolding sum_of
returns c =
    let l = c.loop-length in
    let lengths = c.part-length-items.result.now in
    omega (
      arith,
      l.invariant.1,
      ap sum_of (drop_of_length-le lengths c.loop-length-test.false),
      ap sum_of (c.part-length-items.ensures ∙ lengths_cut c.args.table.now c.args.number c.min.result c.min.ensures),
    )
