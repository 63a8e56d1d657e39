-- `units::Tenths::trees` meets its contract: the products fit.
use Rattle.laws.proofs.{arith, rules}
use Rattle.units.specs.{trees_of}
use Rattle.units.proofs.Products.{product_fits}
use Rattle.units.proofs.Tenths.trees.Goals as goal

pub returns : goal.returns
unfolding trees_of
returns c =
    let a = c.args in
    (search rules, omega (arith, product_fits a.self.0 a.rate.0 (omega arith) (omega arith)))
