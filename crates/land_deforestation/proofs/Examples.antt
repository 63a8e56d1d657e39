-- The guide's examples of deforestation (002, 5.2), and hectares rounded for each parcel, by computation.
use Rattle.std.specs.Prelude.{Ok}
use Rattle.laws.proofs.{ℕ, ◌≡◌, refl, List, [], ◌∷◌, length}
use Rattle.laws.specs.{some, keep, sum_by}
use Rattle.refusals.specs.{weighed, weigh_all, smallest}
use Rattle.units.specs.{tenths_of, trees_of, tonnes}
use Rattle.forest.specs.{Forest, Region}
use Rattle.schedules.specs.{joined, places_from, stock4, schedule4, place_four}
use Rattle.rates.specs.{cell_at, rate_four}
use Rattle.land_clearings.specs.{elder, counting_of}
use Rattle.land_parcels.specs.{Parcel, counted_of, amiss_of, faults_of}
use Rattle.land_deforestation.specs.{faults_among, cases, emitted_of, total_of, answer_of, emissions_of}

-- a parcel of so many ten-thousandths, cleared in 2013 with no earlier clearing
abbrev parcel : ℕ → Forest → ℕ → Parcel
parcel hectares forest planted = record { hectares = hectares; forest = forest; planted = planted; cleared = 2013; earlier = []; count = 0 }

abbrev examples : List (List Parcel × ℕ)
examples =
    -- "88.34 hectares of 34-year-old Douglas fir"
    (parcel 883400 Forest.DouglasFir 1979 ∷ [], 55541)
    -- "002's Schedule 4 cells 807, 475, 337 on 100.13, 55.52, 30.04 ha: 117253 t"
    ∷ (parcel 1001300 (Forest.Radiata Region.Auckland) 1985 ∷ parcel 555200 Forest.DouglasFir 1985 ∷ parcel 300400 Forest.ExoticHardwoods 2002 ∷ [], 117253)
    -- twice 1.05 ha are twice 1.1 ha, and not 2.1 ha
    ∷ (parcel 10500 (Forest.Radiata Region.Auckland) 1985 ∷ parcel 10500 (Forest.Radiata Region.Auckland) 1985 ∷ [], 1775)
    ∷ []

unfoldable pub AllHold : List (List Parcel × ℕ) → Type 0
AllHold [] = Unit
AllHold (e ∷ es) = (emissions_of (length e.0) e.0 ≡ Ok e.1) × AllHold es

pub examples_hold : AllHold examples
unfolding AllHold some keep sum_by weighed weigh_all smallest tenths_of trees_of tonnes joined places_from stock4 schedule4 place_four cell_at rate_four elder counting_of counted_of amiss_of faults_of faults_among cases emitted_of total_of answer_of emissions_of
examples_hold = (refl, (refl, (refl, tt)))
