-- A parcel of pre-1990 land: the clearing whose trees count, and what refuses the parcel.
use Rattle.std.specs.Prelude.{◌||◌, ◌∷◌}
use Rattle.laws.specs.{ℕ, Bool, List, ltb, take, some}
use Rattle.forest.specs.{same_type, Forest}
use Rattle.ranges.specs.{first_year, last_year, first_planted, least_hectares, most_hectares}
use Rattle.land_clearings.specs.{Clearing, most_earlier, least_age, age_of, counting_of}
use Rattle.land_parcels.specs.declared.Parcel.{Parcel}
use Rattle.land_parcels.specs.declared.Faults.{Faults}
use Rattle.land_parcels.specs.declared.Amiss.{Amiss}

-- the parcel's own clearing
abbrev pub own_clearing : Parcel → Clearing
own_clearing p = record { forest = p.forest; planted = p.planted; cleared = p.cleared }

-- the earlier clearings given, of which four are held at most
abbrev pub earlier_of : Parcel → List Clearing
earlier_of p = take p.count p.earlier

-- the clearing whose trees count
unfoldable pub counted_of : Parcel → Clearing
counted_of p = counting_of (own_clearing p) (earlier_of p)

-- "3 type (B too in a .. parcel)"
abbrev pub clears_bare : Clearing → Bool
clears_bare c = same_type c.forest Forest.Bare

-- "other years are 1900 to 2199"
abbrev pub off_years : ℕ → Bool
off_years year = ltb year first_planted || ltb last_year year

abbrev pub out_of_years : Clearing → Bool
out_of_years c = off_years c.planted || off_years c.cleared

-- "cleared before planted, or an earlier clearing later than the parcel's"
abbrev pub misordered : ℕ → Clearing → Bool
misordered last c = ltb c.cleared c.planted || ltb last c.cleared

-- what is wrong with some clearing, the parcel's own and the earlier ones judged alike
unfoldable pub amiss_of : Clearing → List Clearing → Amiss
amiss_of own earlier = record {
  bare = some clears_bare (own ∷ earlier);
  years = some out_of_years (own ∷ earlier);
  order = some (misordered own.cleared) (own ∷ earlier);
}

-- what is wrong with a parcel
unfoldable pub faults_of : Parcel → Faults
faults_of p = record {
  bare = (amiss_of (own_clearing p) (earlier_of p)).bare;
  -- "hectares (in ten-thousandths, 1 to 10000 ha)"
  hectares = ltb p.hectares least_hectares || ltb most_hectares p.hectares;
  -- "the parcel is cleared in 2008 to 2199"
  years = ltb p.cleared first_year || (amiss_of (own_clearing p) (earlier_of p)).years;
  -- "over four earlier clearings"
  order = ltb most_earlier p.count || (amiss_of (own_clearing p) (earlier_of p)).order;
  -- "no trees of nine years"
  young = ltb (age_of (counted_of p)) least_age;
}
