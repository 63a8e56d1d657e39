-- `units::rounded` meets its contract: the rest of a thousand counts as one from 500 on.
use Rattle.laws.proofs.{◌≡◌, ◌+◌, ◌/◌, ◌%◌, arith}
use Rattle.units.specs.{tenths_of}
use Rattle.units.proofs.rounded.Goals as goal

pub returns : goal.returns
unfolding tenths_of
returns c =
    let n = c.args.ten_thousandths in
    let e : n / 1000 + n % 1000 / 500 ≡ (n + 500) / 1000 = omega arith in
    λ i. record { 0 = e i }
