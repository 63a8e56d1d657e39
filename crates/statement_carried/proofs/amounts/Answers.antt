-- `statement_carried::amounts` meets its contract, which joins the same tests; the count of sub-areas keeps the product small.
use Rattle.laws.proofs.{refl}
use Rattle.laws.specs.{all_of}
use Rattle.statement_carried.specs.{amounts_within}
use Rattle.statement_carried.proofs.amounts.Goals as goal

pub returns : goal.returns
unfolding amounts_within all_of
returns c = refl
