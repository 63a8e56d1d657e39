-- `statement_distinct::numbers` meets its contract. The loop's invariant: what stands apart so far and from here on makes the whole.
use Rattle.laws.proofs.{ℕ, ◌&&◌, ◌≡◌, drop}
use Rattle.laws.specs.{distinct}
use Rattle.statement_distinct.proofs.numbers.Given as goal

abbrev pub invariant-loop-i : goal.invariant-loop-i
invariant-loop-i l = (l.apart && distinct (λ (n : ℕ). n) (drop l.i l.numbers)) ≡ distinct (λ (n : ℕ). n) l.numbers
