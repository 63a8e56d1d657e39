-- What stands at a place that a search found, an area looked up by its number, and the area with a sub-area put back.
use Rattle.std.specs.Prelude.{◌-◌, Some, None, Option}
use Rattle.laws.specs.{ℕ, max, Bool, true, false, List, get_or, set}
use Rattle.holding.specs.{Sub, Area, Holding, empty_sub, empty_area, with_subs, with_latest, find_area}
use Rattle.holding_look.specs.declared.Looked.{Looked}

abbrev pub known : Option ℕ → Bool
known (Some i) = true
known None = false

-- the area there, the empty one where none stands
unfoldable pub area_at : Holding → Option ℕ → Area
area_at holding (Some i) = get_or holding.areas i empty_area
area_at holding None = empty_area

-- what a step is given of a holding: the number looked for, how many areas stand, and the one area at a place
abbrev pub looked_at : Holding → ℕ → Option ℕ → Looked
looked_at holding number found = record { number = number; count = holding.count; found = found; area = area_at holding found }

-- the area of a number
abbrev pub looked_up : Holding → ℕ → Looked
looked_up holding number = looked_at holding number (find_area holding number)

unfoldable pub sub_at : Area → Option ℕ → Sub
sub_at area (Some i) = get_or area.subs i empty_sub
sub_at area None = empty_sub

-- the units that an area has: "units received less units surrendered"
abbrev pub balance_of : Area → ℕ
balance_of area = area.received - area.surrendered

abbrev pub subs_with : List Sub → Option ℕ → Sub → List Sub
subs_with subs (Some i) sub = set subs i sub
subs_with subs None sub = subs

-- the area with a sub-area put back at its place, after a clearing or planting in a year: "a latest year (greatest of its C and P entries, ..)"
unfoldable pub with_sub : Area → Option ℕ → Sub → ℕ → Area
with_sub area found sub year = with_latest (max area.latest year) (with_subs area.count (subs_with area.subs found sub) area)
