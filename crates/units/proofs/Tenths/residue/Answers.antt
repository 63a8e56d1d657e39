-- `units::Tenths::residue` meets its contract: the products fit.
use Rattle.laws.proofs.{arith, rules}
use Rattle.units.specs.{residue_of}
use Rattle.units.proofs.Products.{stock-fits}
use Rattle.units.proofs.Tenths.residue.Goals as goal

pub returns : goal.returns
unfolding residue_of
returns c =
    let a = c.args in
    (search rules, omega (arith, stock-fits a.self.0 a.rate.0 a.share (omega arith) (omega arith) (omega arith)))
