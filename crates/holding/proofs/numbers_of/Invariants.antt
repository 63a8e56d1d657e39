-- `holding::numbers_of` meets its contract: the loop stores the numbers from the front, and there are as many as places.
use Rattle.laws.proofs.Stores.{Storing}
use Rattle.holding.specs.{numbers_in}
use Rattle.holding.proofs.numbers_of.Given as goal

abbrev pub invariant-loop-k : goal.invariant-loop-k
invariant-loop-k l = Storing (numbers_in l.fn.holding.areas) l.initial.numbers 0 l.numbers l.k
