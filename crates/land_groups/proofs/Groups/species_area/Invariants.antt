-- `land_groups::Groups::species_area` meets its contract: the sum so far and that of the groups left make the species' total.
use Rattle.laws.proofs.{◌+◌, ◌*◌, ◌≤◌, ◌≡◌, drop}
use Rattle.land_groups.specs.{of_species, area, sum_over, species_area}
use Rattle.land_groups.proofs.Groups.species_area.Given as goal

abbrev pub invariant-loop-g : goal.invariant-loop-g
invariant-loop-g l = (l.sum + sum_over (of_species l.species) area (drop l.g-index l.self.listed.now) ≡ species_area l.self.listed.now l.species)
    × (l.sum ≤ 4294967295 * l.g-index)
