-- Basal area by species and by type, and the mean age of a type.
use Rattle.std.specs.Prelude.{◌+◌, ◌*◌, ◌/◌}
use Rattle.laws.specs.{ℕ, Bool, cond, List, eqb, sum_by}
use Rattle.forest.specs.{Forest, same_type}
use Rattle.land_groups.specs.declared.Group.{Group}
use Rattle.land_groups.specs.declared.Weights.{Weights}

-- "7 tree list: none or over 64 groups"
abbrev pub most_groups : ℕ
most_groups = 64

abbrev pub of_species : ℕ → Group → Bool
of_species species g = eqb g.species species

-- a region's radiata is a type of its own
abbrev pub of_type : Forest → Group → Bool
of_type forest g = same_type g.forest forest

abbrev pub area : Group → ℕ
area g = g.basal_area

abbrev pub weighted_age : Group → ℕ
weighted_age g = g.age * g.basal_area

-- the sum of a measure over the groups that pass a test
abbrev pub sum_over : (Group → Bool) → (Group → ℕ) → List Group → ℕ
sum_over passes measure gs = sum_by (λ g. cond (passes g) (measure g) 0) gs

-- the total basal area of a species
unfoldable pub species_area : List Group → ℕ → ℕ
species_area gs species = sum_over (of_species species) area gs

-- the basal area of a type, and its ages weighted by basal area
unfoldable pub weights_of : List Group → Forest → Weights
weights_of gs forest = record { area = sum_over (of_type forest) area gs; age = sum_over (of_type forest) weighted_age gs }

-- a quotient rounded half up
unfoldable pub half_up : ℕ → ℕ → ℕ
half_up n d = (2 * n + d) / (2 * d)

-- "the age is the basal-area-weighted mean over all groups of that type, rounded half up (002, 4.5)"
unfoldable pub mean_age : List Group → Forest → ℕ
mean_age gs forest = half_up (weights_of gs forest).age (weights_of gs forest).area
