-- `land_parcels::find_faults` meets its contract, by what is wrong with its clearings and the age that counts.
use Rattle.land_parcels.specs.{faults_of}
use Rattle.land_parcels.proofs.find_faults.Goals as goal

pub returns : goal.returns
unfolding faults_of
returns c =
    let b = c in
    simp (b.age-age.ensures, b.counted.ensures, b.find_amiss-amiss.ensures, b.own_clearing.ensures, b.earlier.ensures)
