-- `book::print_listing`: while a line is left, the next part begins further on.
use Rattle.laws.proofs.{arith}
use Rattle.book.proofs.print_listing.Goals as goal

pub loop-part-smaller : goal.loop-part-smaller
loop-part-smaller g c = let inside = c.loop-part-test.true in omega (arith, inside, c.put_part-part-in-loop-part.ensures.comes_to.on inside)
