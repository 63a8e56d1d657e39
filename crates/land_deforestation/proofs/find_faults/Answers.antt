-- `land_deforestation::find_faults` meets its contract: what is found so far, joined with what is found among the parcels left, is found in the whole.
use Rattle.land_deforestation.proofs.Turns.{all_left, faults_end, faults_more}
use Rattle.land_deforestation.proofs.find_faults.Goals as goal

pub loop-p-init : goal.loop-p-init
loop-p-init c = all_left _

pub loop-p-preserved : goal.loop-p-preserved
loop-p-preserved c = rw c.joined-found.ensures (faults_more _ _ _ _ c.loop-p.invariant _ _ c.loop-p-test.true c.find_faults.ensures)

pub returns : goal.returns
returns c = faults_end _ _ _ _ c.loop-p.invariant c.loop-p-test.false
