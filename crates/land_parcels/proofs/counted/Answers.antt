-- `land_parcels::counted` meets its contract: its own clearing and the earlier ones are handed over.
use Rattle.land_parcels.specs.{counted_of}
use Rattle.land_parcels.proofs.counted.Goals as goal

pub returns : goal.returns
unfolding counted_of
returns c = simp (c.counting.ensures, c.own_clearing.ensures, c.earlier.ensures)
