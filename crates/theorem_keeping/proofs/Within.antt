-- The ranges of fields, read as bounds.
use Rattle.laws.proofs.{ℕ, ◌≤◌, Bool, true, false, not, ◌&&◌, ◌||◌, ◌≡◌, eqb, leb, ltb, leb-true, le-leb, ltb-false}
use Rattle.laws.proofs.Elements.{or_false_left, or_false_right, clash}
use Rattle.forest.specs.{Forest}
use Rattle.units.specs.{Tenths}
use Rattle.ranges.specs.{first_year, last_year, first_planted, least_land, most_land, is_bare, is_year, is_land, is_planted}
use Rattle.laws.proofs.Lists.{and_left, and_right, both}

-- both bounds of a number that a test keeps within them
pub within : (low n high : ℕ) → leb low n && leb n high ≡ true → (low ≤ n) × (n ≤ high)
within low n high e = (leb-true low n (and_left (leb low n) (leb n high) e), leb-true n high (and_right (leb low n) (leb n high) e))

pub year_within : (y : ℕ) → is_year y ≡ true → (first_year ≤ y) × (y ≤ last_year)
year_within y e = within first_year y last_year e

pub land_within : (land : Tenths) → is_land land ≡ true → (least_land ≤ land.0) × (land.0 ≤ most_land)
land_within land e = within least_land land.0 most_land e

-- trees are planted from 1900 on
pub planted-within : (forest : Forest) (y : ℕ) → is_planted forest y ≡ true → is_bare forest ≡ false → (first_planted ≤ y) × (y ≤ last_year)
planted-within forest y e b = go (is_bare forest) b e
  where
    go : (bare : Bool) → bare ≡ false → ((bare && eqb y 0) || (not bare && (leb first_planted y && leb y last_year))) ≡ true
        → (first_planted ≤ y) × (y ≤ last_year)
    go true b e = clash b
    go false b e = within first_planted y last_year e

pub planted_so : (forest : Forest) (y : ℕ) → is_bare forest ≡ false → first_planted ≤ y → y ≤ last_year → is_planted forest y ≡ true
planted_so forest y b p q = go (is_bare forest) b
  where
    go : (bare : Bool) → bare ≡ false → ((bare && eqb y 0) || (not bare && (leb first_planted y && leb y last_year))) ≡ true
    go true b = clash b
    go false b = both _ _ (le-leb _ _ p) (le-leb _ _ q)

-- "31 year before the open or latest year" does not apply
pub not_before : (year open_year_lem latest : ℕ) → (ltb year open_year_lem || ltb year latest) ≡ false → (open_year_lem ≤ year) × (latest ≤ year)
not_before year open_year_lem latest e =
    let early = ltb year open_year_lem in
    let late = ltb year latest in
    (ltb-false year open_year_lem (or_false_left early late e), ltb-false year latest (or_false_right early late e))
