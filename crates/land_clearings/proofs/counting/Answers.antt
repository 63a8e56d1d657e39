-- `land_clearings::counting` meets its contract: setting the clearings left against the oldest so far gives the one that counts.
use Rattle.land_clearings.proofs.Window.{own_counts, oldest_counts}
use Rattle.land_clearings.proofs.counting.Goals as goal

pub returns-then-age-ge-LEAST_AGE : goal.returns-then-age-ge-LEAST_AGE
returns-then-age-ge-LEAST_AGE c = own_counts _ _ _ c.age.ensures c.if-age-ge-LEAST_AGE.true

pub loop-c-init : goal.loop-c-init
loop-c-init c = oldest_counts _ _ _ c.age.ensures c.if-age-ge-LEAST_AGE.false
