-- `land_deforestation::total` meets its contract: the sum so far and that of the parcels left make the whole, and the sum is bounded, so that one
-- more has room.
use Rattle.laws.proofs.{◌*◌, refl, ap, arith}
use Rattle.units.proofs.Sums.{kilograms, number, sum_is}
use Rattle.land_deforestation.specs.{total_of}
use Rattle.land_deforestation.proofs.Turns.{sum_end, sum_more}
use Rattle.land_deforestation.proofs.total.Goals as goal

pub loop-p-init : goal.loop-p-init
unfolding total_of
loop-p-init c = let nothing = ap number c.none-sum.ensures in (omega (arith, nothing), omega (arith, nothing))

pub loop-p-preserved : goal.loop-p-preserved
loop-p-preserved c =
    let b = c.loop-p in
    let stock = c.emitted.ensures in
    let sum =
    sum_is _ _ _ b.sum.0 _ (4294967295 * 65535 * 10 * b.p-index) (4294967295 * 65535 * 10) c.plus-sum.ensures refl refl b.invariant.1 stock.1
    (omega arith) in
    let more = sum_more _ _ _ _ _ b.invariant.0 _ _ c.loop-p-test.true (ap number stock.0) in
    (omega (arith, sum.0, more), omega (arith, sum.1))

pub returns : goal.returns
returns c = ap kilograms (sum_end _ _ _ _ _ c.loop-p.invariant.0 c.loop-p-test.false)
