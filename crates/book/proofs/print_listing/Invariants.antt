-- `book::print_listing` ends, and writes no more of its buffer than was put: while a line is left, the next part begins further on.
use Rattle.laws.proofs.{◌-◌, ◌≤◌, ◌≡◌, length, take}
use Rattle.book.proofs.print_listing.Given as goal

abbrev pub invariant-loop-part : goal.invariant-loop-part
invariant-loop-part g l = (l.part.count ≤ length l.out) × (l.part.count ≡ length (take l.part.count l.out))

abbrev pub decreases-loop-part : goal.decreases-loop-part
decreases-loop-part g l = length l.book - l.part.next
