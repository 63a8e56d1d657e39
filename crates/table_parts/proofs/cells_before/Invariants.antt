-- `table_parts::cells_before` meets its contract. The loop's invariant: the sum so far and the sum of what is left of the lengths make the whole.
use Rattle.laws.proofs.{◌≡◌, ◌≤◌, ◌+◌, ◌*◌, drop}
use Rattle.laws.specs.{sum_of}
use Rattle.table_parts.proofs.cells_before.Given as goal

abbrev pub invariant-loop-length : goal.invariant-loop-length
invariant-loop-length l = (l.cells ≤ 65535 * l.length-index) × (l.cells + sum_of (drop l.length-index l.length-items) ≡ sum_of l.length-items)
