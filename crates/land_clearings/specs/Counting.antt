-- The trees that count for pre-1990 land (002, 4.5): those of the clearing itself from nine years on, else the oldest of the last nine years.
use Rattle.std.specs.Prelude.{◌+◌, ◌-◌, ◌&&◌}
use Rattle.laws.specs.{ℕ, Bool, cond, List, foldl, leb, ltb, keep, outranks}
use Rattle.land_clearings.specs.declared.Clearing.{Clearing}

-- "up to four earlier clearings"
abbrev pub most_earlier : ℕ
most_earlier = 4

-- "Under nine years"; "no trees of nine years"
abbrev pub least_age : ℕ
least_age = 9

-- how many years before another a clearing counts
abbrev pub window : ℕ
window = 9

-- "Age is cleared less planted."
abbrev pub age_of : Clearing → ℕ
age_of c = c.cleared - c.planted

-- "at most nine years before its own"
abbrev pub within : Clearing → Clearing → Bool
within own c = leb c.cleared own.cleared && leb own.cleared (c.cleared + window)

-- "the oldest trees ..; on a tie the later cleared"
abbrev pub older : Clearing → Clearing → Bool
older c best = outranks (age_of c) (age_of best) (ltb best.cleared c.cleared)

-- of two, the older; "then the parcel itself, then the first listed"
unfoldable pub elder : Clearing → Clearing → Clearing
elder best c = cond (older c best) c best

-- "Under nine years, the oldest trees among itself and the clearings at most nine years before its own count"
unfoldable pub counting_of : Clearing → List Clearing → Clearing
counting_of own earlier = cond (leb least_age (age_of own)) own (foldl elder own (keep (within own) earlier))
