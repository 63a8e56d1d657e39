-- `Kilograms::plus` meets its contract: what the most leaves behind a stock tells whether the sum has room.
use Rattle.laws.proofs.{◌+◌, ◌≡◌, min, arith}
use Rattle.units.specs.{most_kilograms, plus}
use Rattle.units.proofs.Kilograms.plus.Goals as goal

pub returns-then-stock-other : goal.returns-then-stock-other
unfolding plus
returns-then-stock-other c =
    let stops : most_kilograms ≡ min (c.args.self.0 + c.args.more.0) most_kilograms = omega (arith, c.if-stock-other.true) in
    λ i. record { 0 = stops i }

pub returns : goal.returns
unfolding plus
returns c =
    let adds : c.args.self.0 + c.args.more.0 ≡ min (c.args.self.0 + c.args.more.0) most_kilograms = omega (arith, c.if-stock-other.false) in
    λ i. record { 0 = adds i }
