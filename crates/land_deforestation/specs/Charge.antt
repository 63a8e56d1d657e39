-- "Emissions are the sum of tenths × Schedule 4 cell × 10 kg over 1 to 64 parcels, rounded to tonnes, half up."
use Rattle.std.specs.Prelude.{◌||◌, ◌∷◌, Ok, Err, Result}
use Rattle.laws.specs.{ℕ, List, [], eqb, ltb, some, sum_by}
use Rattle.refusals.specs.{Verdict, Case, ◌⇒◌, smallest, Refusal}
use Rattle.units.specs.{Kilograms, tenths_of, trees_of, tonnes}
use Rattle.schedules.specs.{schedule4}
use Rattle.rates.specs.{rate_four}
use Rattle.land_clearings.specs.{age_of}
use Rattle.land_parcels.specs.{Faults, Parcel, counted_of, faults_of}

abbrev pub most_parcels : ℕ
most_parcels = 64

-- what is wrong with one or the other
abbrev pub joined : Faults → Faults → Faults
joined a b = record {
  bare = a.bare || b.bare;
  hectares = a.hectares || b.hectares;
  years = a.years || b.years;
  order = a.order || b.order;
  young = a.young || b.young;
}

-- what is wrong with some parcel
unfoldable pub faults_among : List Parcel → Faults
faults_among ps = record {
  bare = some (λ p. (faults_of p).bare) ps;
  hectares = some (λ p. (faults_of p).hectares) ps;
  years = some (λ p. (faults_of p).years) ps;
  order = some (λ p. (faults_of p).order) ps;
  young = some (λ p. (faults_of p).young) ps;
}

-- of the parcels that are held, and the number of parcels given
unfoldable pub cases : ℕ → List Parcel → List Case
cases count ps =
    -- "3 type ..; 4 hectares; 5 year range"
    (faults_among ps).bare ⇒ Refusal.ForestType
    ∷ (faults_among ps).hectares ⇒ Refusal.Hectares
    ∷ (faults_among ps).years ⇒ Refusal.YearRange
    -- "9 parcel count, over four earlier clearings, cleared before planted, or an earlier clearing later than the parcel's"
    ∷ (eqb count 0 || ltb most_parcels count) ⇒ Refusal.ParcelList
    ∷ (faults_among ps).order ⇒ Refusal.ParcelList
    -- "10 no trees of nine years"
    ∷ (faults_among ps).young ⇒ Refusal.NoTreesOfNineYears
    ∷ []

-- a parcel's emissions, by the cells of Schedule 4; its hectares are rounded by themselves
unfoldable pub emitted_of : List ℕ → Parcel → Kilograms
emitted_of cells p = trees_of (tenths_of p.hectares) (rate_four cells (counted_of p).forest (age_of (counted_of p)))

unfoldable pub total_of : List ℕ → List Parcel → Kilograms
total_of cells ps = record { 0 = sum_by (λ (p : Parcel). (emitted_of cells p).0) ps }

-- the emissions of a list in tonnes, or its refusal
abbrev pub Emissions : Type 0
Emissions = Result ℕ Refusal

unfoldable pub answer_of : Verdict → List Parcel → Emissions
answer_of (Err refusal) ps = Err refusal
answer_of (Ok _) ps = Ok (tonnes (total_of schedule4 ps).0)

unfoldable pub emissions_of : ℕ → List Parcel → Emissions
emissions_of count ps = answer_of (smallest (cases count ps)) ps
