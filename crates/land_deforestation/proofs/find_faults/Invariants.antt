-- `land_deforestation::find_faults` meets its contract: what is found so far, joined with what is found among the parcels left, is found in the whole.
use Rattle.laws.proofs.{◌≡◌, drop}
use Rattle.land_deforestation.specs.{joined, faults_among}
use Rattle.land_deforestation.proofs.find_faults.Given as goal

abbrev pub invariant-loop-p : goal.invariant-loop-p
invariant-loop-p l = joined l.found (faults_among (drop l.p-index l.parcels)) ≡ faults_among l.parcels
