-- "Predominant: the species of greatest total basal area, the lower number on a tie."
use Rattle.std.specs.Prelude.{◌∷◌}
use Rattle.laws.specs.{ℕ, Bool, cond, List, [], foldl, ltb, outranks}
use Rattle.forest.specs.{Forest}
use Rattle.land_groups.specs.{Group, species_area}

-- whether a species with its total basal area comes before another with its own
abbrev pub comes_before : ℕ → ℕ → ℕ → ℕ → Bool
comes_before total species other_total other = outranks total other_total (ltb species other)

-- whether a group's species comes before another's
abbrev pub precedes : List Group → Group → Group → Bool
precedes gs g h = comes_before (species_area gs g.species) g.species (species_area gs h.species) h.species

-- of two groups, the one whose species comes before the other's; the first where it is one species
unfoldable pub leading : List Group → Group → Group → Group
leading gs leader g = cond (precedes gs g leader) g leader

abbrev pub no_group : Group
no_group = record { species = 0; forest = Forest.Bare; age = 0; basal_area = 0 }

-- a group of the predominant species
unfoldable pub predominant_of : List Group → Group
predominant_of [] = no_group
predominant_of (g ∷ gs) = foldl (leading (g ∷ gs)) g gs
