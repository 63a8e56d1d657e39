-- The age of a hectare, by the type of its predominant species.
use Rattle.std.specs.Prelude.{◌∷◌}
use Rattle.laws.specs.{ℕ, max, cond, List, []}
use Rattle.forest.specs.{Forest, same_type}
use Rattle.land_groups.specs.{Group, of_type, mean_age}

-- a group's age where it is of the type, else nought
abbrev pub age_if : Forest → Group → ℕ
age_if forest g = cond (of_type forest g) g.age 0

-- the greatest age among the groups of a type, nought where there is none
unfoldable pub greatest_age : List Group → Forest → ℕ
greatest_age [] forest = 0
greatest_age (g ∷ gs) forest = max (age_if forest g) (greatest_age gs forest)

-- "Where the predominant type is N, the hectare's age becomes the greatest age among its N groups. .. The other types keep the weighted mean" (document 02, item 1)
unfoldable pub hectare_age : List Group → Forest → ℕ
hectare_age gs forest = cond (same_type forest Forest.Indigenous) (greatest_age gs forest) (mean_age gs forest)
