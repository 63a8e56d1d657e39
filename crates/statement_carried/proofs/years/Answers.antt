-- `statement_carried::years` meets its contract, which joins the same tests.
use Rattle.laws.specs.{all_of}
use Rattle.statement_carried.specs.{years_carried}
use Rattle.statement_carried.proofs.years.Goals as goal

pub returns : goal.returns
unfolding years_carried all_of
returns c = simp (c.is_year-2.ensures, c.is_year.ensures)
