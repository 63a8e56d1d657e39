-- `land_ages::greatest_age` meets its contract: the age so far, or the greatest of the groups left, is the greatest of all.
use Rattle.laws.proofs.{max, ◌≡◌, drop}
use Rattle.land_ages.specs.{greatest_age}
use Rattle.land_ages.proofs.greatest_age.Given as goal

abbrev pub invariant-loop-g : goal.invariant-loop-g
invariant-loop-g l = max l.age (greatest_age (drop l.g-index l.groups.listed.now) l.leader.forest) ≡ greatest_age l.groups.listed.now l.leader.forest
