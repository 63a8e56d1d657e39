-- `stocks::sub_stock` meets its contract: both stocks are bounded, so that their sum has room.
use Rattle.laws.proofs.{ap, arith}
use Rattle.units.proofs.Sums.{kilograms, number, sum_is}
use Rattle.stocks.specs.{sub_stock}
use Rattle.stocks.proofs.sub_stock.Goals as goal

pub returns : goal.returns
unfolding sub_stock
returns c =
    let trees = c.trees_on-trees.ensures in
    let residue = c.residue_on-residue.ensures in
    let sum = sum_is _ _ _ _ _ _ _ c.plus.ensures (ap number trees.0) (ap number residue.0) trees.1 residue.1 (omega arith) in
    (ap kilograms sum.0, sum.1)
