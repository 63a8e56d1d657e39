-- `stocks::trees_on` meets its contract: none before the trees are planted, else the stock of the land at the rate of its trees' age.
use Rattle.laws.proofs.{arith, lt-ltb, le-ltb}
use Rattle.stocks.specs.{trees_on}
use Rattle.stocks.proofs.trees_on.Goals as goal

pub returns-then-year-sub : goal.returns-then-year-sub
unfolding trees_on
returns-then-year-sub c = (simp (c.none.ensures, lt-ltb _ _ c.if-year-sub.true), simp c.none.ensures (omega arith))

pub returns : goal.returns
unfolding trees_on
returns c =
    (simp (le-ltb _ _ c.if-year-sub.false, c.trees.ensures.0, c.rate_six-rate.ensures, c.years_from-age.ensures), c.trees.ensures.1)
