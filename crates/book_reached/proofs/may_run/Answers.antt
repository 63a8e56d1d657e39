-- `book_reached::may_run` meets its contract: each test of the definition in its order.
use Rattle.laws.proofs.{refl}
use Rattle.laws.specs.{all_of}
use Rattle.book_reached.specs.{may_run}
use Rattle.book_reached.proofs.may_run.Goals as goal

pub returns : goal.returns
unfolding may_run all_of
returns c = refl
