-- `statement_judge::holding` meets its contract, which joins the same tests.
use Rattle.laws.specs.{all_of}
use Rattle.statement_carried.specs.{carried_within}
use Rattle.statement_judge.proofs.holding.Goals as goal

pub returns : goal.returns
unfolding carried_within all_of
returns c = simp (c.areas-2.ensures, c.areas.ensures)
