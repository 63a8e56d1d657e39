-- `land_groups::Groups::type_weights` meets its contract: both sums so far and those of the groups left make the type's.
use Rattle.laws.proofs.{◌+◌, ◌*◌, ◌≤◌, ◌≡◌, drop}
use Rattle.land_groups.specs.{of_type, area, weighted_age, sum_over, weights_of}
use Rattle.land_groups.proofs.Groups.type_weights.Given as goal

abbrev pub invariant-loop-g : goal.invariant-loop-g
invariant-loop-g l = (l.area + sum_over (of_type l.forest) area (drop l.g-index l.self.listed.now) ≡ (weights_of l.self.listed.now l.forest).area)
    × (l.age + sum_over (of_type l.forest) weighted_age (drop l.g-index l.self.listed.now) ≡ (weights_of l.self.listed.now l.forest).age)
    × (l.area ≤ 4294967295 * l.g-index)
    × (l.age ≤ 281470681677825 * l.g-index)
