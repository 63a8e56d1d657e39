-- `land_deforestation::total` meets its contract: the sum so far and that of the parcels left make the whole, and the sum is bounded, so that one
-- more has room.
use Rattle.laws.proofs.{◌+◌, ◌*◌, ◌≤◌, ◌≡◌, drop}
use Rattle.laws.specs.{sum_by}
use Rattle.land_parcels.specs.{Parcel}
use Rattle.land_deforestation.specs.{emitted_of, total_of}
use Rattle.land_deforestation.proofs.total.Given as goal

abbrev pub invariant-loop-p : goal.invariant-loop-p
invariant-loop-p l = (l.sum.0 + sum_by (λ (p : Parcel). (emitted_of l.cells p).0) (drop l.p-index l.parcels) ≡ (total_of l.cells l.parcels).0)
    × (l.sum.0 ≤ 4294967295 * 65535 * 10 * l.p-index)
