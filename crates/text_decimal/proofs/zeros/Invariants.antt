-- `text_decimal::zeros` meets its contract. The loop's invariant: the zeros that are left make of n what all of them make of the number.
use Rattle.laws.proofs.{◌-◌, ◌≡◌}
use Rattle.text_number.specs.{more}
use Rattle.text_decimal.specs.{zeros}
use Rattle.text_decimal.proofs.zeros.Given as goal

abbrev pub invariant-loop : goal.invariant-loop
invariant-loop l = more l.n (zeros (l.count - l.counter)) ≡ more l.initial.n (zeros l.count)
