-- `units::Kilograms::change_to` meets its contract, by which stock is the larger.
use Rattle.laws.proofs.{le-leb, lt-leb}
use Rattle.units.specs.{change_between}
use Rattle.units.proofs.Kilograms.change_to.Goals as goal

pub returns-then-opening-closing : goal.returns-then-opening-closing
unfolding change_between
returns-then-opening-closing c = simp (c.nearest.ensures, le-leb _ _ c.if-opening-closing.true)

pub returns : goal.returns
unfolding change_between
returns c = simp (c.nearest-2.ensures, lt-leb _ _ c.if-opening-closing.false)
