-- The ranges of document 01's "Entries". "A reader accepts it exactly when fields keep the ranges above": a statement's fields keep them too.
use Rattle.std.specs.Prelude.{◌&&◌, ◌||◌}
use Rattle.laws.specs.{ℕ, Bool, true, false, not, eqb, leb}
use Rattle.forest.specs.{Forest}
use Rattle.units.specs.{Tenths}

abbrev pub last_area : ℕ
last_area = 999

abbrev pub last_sub : ℕ
last_sub = 99

abbrev pub first_year : ℕ
first_year = 2008

abbrev pub last_year : ℕ
last_year = 2199

abbrev pub first_planted : ℕ
first_planted = 1900

-- "hectares .. 1 to 10000", in ten-thousandths
abbrev pub least_hectares : ℕ
least_hectares = 10000

abbrev pub most_hectares : ℕ
most_hectares = 100000000

-- the same in tenths
abbrev pub least_land : ℕ
least_land = 10

abbrev pub most_land : ℕ
most_land = 100000

-- "Bare land is type B"
abbrev pub is_bare : Forest → Bool
is_bare Forest.Bare = true
is_bare (Forest.Radiata region) = false
is_bare Forest.DouglasFir = false
is_bare Forest.ExoticSoftwoods = false
is_bare Forest.ExoticHardwoods = false
is_bare Forest.Indigenous = false

-- "Areas are 1 to 999."
abbrev pub is_area : ℕ → Bool
is_area n = leb 1 n && leb n last_area

-- "sub 1 to 99"
abbrev pub is_sub : ℕ → Bool
is_sub n = leb 1 n && leb n last_sub

-- "opening (2008 to 2199)"; "last (2008 to 2199)"; "years 2008 to 2199"
abbrev pub is_year : ℕ → Bool
is_year y = leb first_year y && leb y last_year

-- "tenths are 10 to 100000"
abbrev pub is_land : Tenths → Bool
is_land land = leb least_land land.0 && leb land.0 most_land

-- "planted 1900 to 2199. Bare land is type B, planted 0; B with a year, or another type with 0, is 5."
abbrev pub is_planted : Forest → ℕ → Bool
is_planted forest y = (is_bare forest && eqb y 0) || (not (is_bare forest) && (leb first_planted y && leb y last_year))
