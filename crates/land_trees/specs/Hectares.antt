-- The type and age of a hectare, or the refusal of its tree list.
use Rattle.std.specs.Prelude.{◌&&◌, ◌||◌, ◌∷◌, Ok, Err, Result}
use Rattle.laws.specs.{ℕ, Bool, not, List, [], eqb, ltb, length, some}
use Rattle.refusals.specs.{Verdict, Case, ◌⇒◌, smallest, Refusal}
use Rattle.forest.specs.{Forest}
use Rattle.land_groups.specs.{Group, most_groups, of_species, of_type}
use Rattle.land_predominance.specs.{predominant_of}
use Rattle.land_ages.specs.{hectare_age}
use Rattle.land_trees.specs.declared.Hectare.{Hectare}

abbrev pub oldest_trees : ℕ
oldest_trees = 300

abbrev pub most_basal_area : ℕ
most_basal_area = 1000000

-- "age over 300, basal area 0 or over 1000000"
abbrev pub out_of_range : Group → Bool
out_of_range g = ltb oldest_trees g.age || eqb g.basal_area 0 || ltb most_basal_area g.basal_area

-- a group of the same species under another type
abbrev pub other_type : Group → Group → Bool
other_type g h = of_species g.species h && not (of_type g.forest h)

-- whether some group is bare land
abbrev pub bare_in : List Group → Bool
bare_in gs = some (of_type Forest.Bare) gs

-- of the number of groups given, whether one of them is bare land, and the groups that are held
unfoldable pub cases : ℕ → Bool → List Group → List Case
cases count bare gs =
    -- "3 type (B too in a .. tree ..)"
    bare ⇒ Refusal.ForestType
    -- "7 tree list: none or over 64 groups, age over 300, basal area 0 or over 1000000, one species under two types"
    ∷ (eqb count 0 || ltb most_groups count) ⇒ Refusal.TreeList
    ∷ some out_of_range gs ⇒ Refusal.TreeList
    ∷ some (λ g. some (other_type g) gs) gs ⇒ Refusal.TreeList
    ∷ []

-- what is answered of a list: its hectare's type and age, or its refusal
abbrev pub Answer : Type 0
Answer = Result Hectare Refusal

abbrev pub aged : Forest → ℕ → Answer
aged forest age = Ok (record { forest = forest; age = age })

-- "Its type is the hectare's": the predominant species', by which the age is found
unfoldable pub answer_of : Verdict → List Group → Answer
answer_of (Err refusal) gs = Err refusal
answer_of (Ok _) gs = aged (predominant_of gs).forest (hectare_age gs (predominant_of gs).forest)

unfoldable pub held_of : ℕ → Bool → List Group → Answer
held_of count bare gs = answer_of (smallest (cases count bare gs)) gs

-- "The tree groups of one hectare are lent as a list of records": all of them are held
unfoldable pub hectare_of : List Group → Answer
hectare_of gs = held_of (length gs) (bare_in gs) gs
