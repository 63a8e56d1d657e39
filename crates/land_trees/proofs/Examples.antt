-- Hectares by the rule of their type, by computation: document 02's item 1, and the guide's regenerated forest (002, 4.5).
use Rattle.laws.proofs.{ℕ, ◌-◌, ◌≡◌, refl, List, [], ◌∷◌}
use Rattle.laws.specs.{some, sum_by}
use Rattle.refusals.specs.{weighed, weigh_all, smallest}
use Rattle.forest.specs.{Forest, Region}
use Rattle.land_groups.specs.{Group, species_area, weights_of, half_up, mean_age}
use Rattle.land_predominance.specs.{leading, predominant_of}
use Rattle.land_ages.specs.{greatest_age, hectare_age}
use Rattle.land_trees.specs.{cases, answer_of, held_of, hectare_of, Answer, aged}

abbrev group : ℕ → Forest → ℕ → ℕ → Group
group species forest age area = record { species = species; forest = forest; age = age; basal_area = area }

-- in a later year, seedlings of 2001, when regeneration began, of 2004 and of 2007
abbrev regenerated : ℕ → List Group
regenerated year = group 1 Forest.Indigenous (year - 2001) 50 ∷ group 1 Forest.Indigenous (year - 2004) 200 ∷ group 1 Forest.Indigenous (year - 2007) 100 ∷ []

abbrev examples : List (List Group × Answer)
examples =
    -- N groups of 12, 40 and 25 years: 40; hardwoods of these ages keep the mean
    (group 1 Forest.Indigenous 12 300 ∷ group 1 Forest.Indigenous 40 100 ∷ group 1 Forest.Indigenous 25 200 ∷ [], aged Forest.Indigenous 40)
    ∷ (group 1 Forest.ExoticHardwoods 12 300 ∷ group 1 Forest.ExoticHardwoods 40 100 ∷ group 1 Forest.ExoticHardwoods 25 200 ∷ [], aged Forest.ExoticHardwoods 21)
    -- another N species is older than the predominant one
    ∷ (group 1 Forest.Indigenous 20 500 ∷ group 1 Forest.Indigenous 25 100 ∷ group 2 Forest.Indigenous 45 50 ∷ [], aged Forest.Indigenous 45)
    -- the oldest stem is not N
    ∷ (group 1 Forest.Indigenous 15 500 ∷ group 1 Forest.Indigenous 30 100 ∷ group 2 (Forest.Radiata Region.Auckland) 60 50 ∷ [], aged Forest.Indigenous 30)
    -- N does not predominate, and its stems do not count, however old
    ∷ (group 1 Forest.ExoticHardwoods 12 300 ∷ group 2 Forest.ExoticHardwoods 9 100 ∷ group 3 Forest.Indigenous 90 50 ∷ [], aged Forest.ExoticHardwoods 11)
    -- "2008 − 2001 = 7 years" and "2013 − 2001 = 12 years"; the later seedlings are ours
    ∷ (regenerated 2008, aged Forest.Indigenous 7)
    ∷ (regenerated 2013, aged Forest.Indigenous 12)
    ∷ []

unfoldable pub AllHold : List (List Group × Answer) → Type 0
AllHold [] = Unit
AllHold (e ∷ es) = (hectare_of e.0 ≡ e.1) × AllHold es

pub examples_hold : AllHold examples
unfolding AllHold some sum_by weighed weigh_all smallest species_area weights_of half_up mean_age leading predominant_of greatest_age hectare_age cases answer_of held_of hectare_of
examples_hold = (refl, (refl, (refl, (refl, (refl, (refl, (refl, tt)))))))
