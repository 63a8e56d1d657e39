-- What a holding keeps so that a statement carries it: "A reader accepts it exactly when .." of document 01.
use Rattle.std.specs.Prelude.{◌+◌, ◌*◌, ◌||◌, ◌∷◌}
use Rattle.std.specs.Bool.{beq}
use Rattle.laws.specs.{ℕ, max, Bool, not, [], eqb, leb, every, distinct, all_of}
use Rattle.ranges.specs.{last_year, is_bare, is_area, is_sub, is_year, is_land, is_planted}
use Rattle.holding.specs.{Residue, Sub, Area, Holding, most_areas, areas_of, subs_of, residues_of}
use Rattle.statement_carried.specs.Most.{Limits, limits}

-- "its age is at most 299"
abbrev pub oldest_residue : ℕ
oldest_residue = 299

-- "(latest year 0 or 2008 to 2199)"; "open year is at most 2200, not before opening, and equals it just when returns are 0;
-- returns are at most open year less opening"
unfoldable pub years_carried : Area → Bool
years_carried area =
    all_of
    (is_year area.opening
    ∷ (eqb area.latest 0 || is_year area.latest)
    ∷ leb area.open_year (last_year + 1)
    ∷ leb area.opening area.open_year
    ∷ beq (eqb area.open_year area.opening) (eqb area.returns 0)
    ∷ leb (area.returns + area.opening) area.open_year
    ∷ [])

-- "stock is at most .. for each sub; received is at most .. for each return; surrendered is at most received (equal if withdrawn)"
unfoldable pub amounts_within : Limits → Area → Bool
amounts_within most area =
    all_of
    (leb area.stock.0 (most.stock * area.count)
    ∷ leb area.received (most.received * area.returns)
    ∷ leb area.surrendered area.received
    ∷ (not area.withdrawn || eqb area.surrendered area.received)
    ∷ [])

-- an area's own fields
unfoldable pub fields_within : Limits → Area → Bool
fields_within most area = all_of (leb area.count most.subs ∷ is_area area.number ∷ years_carried area ∷ amounts_within most area ∷ [])

-- "a residue's type isn't B, its year lies from opening to latest year, its age is at most 299"
unfoldable pub residue_carried : Area → Residue → Bool
residue_carried area residue =
    all_of
    (not (is_bare residue.forest)
    ∷ leb area.opening residue.year
    ∷ leb residue.year area.latest
    ∷ leb residue.age oldest_residue
    ∷ [])

-- "planted is at most the greater of opening and latest year; tenths are 10 to 100000"
unfoldable pub sub_carried : Area → Sub → Bool
sub_carried area sub =
    all_of
    (is_sub sub.number
    ∷ is_land sub.tenths
    ∷ is_planted sub.forest sub.planted
    ∷ leb sub.planted (max area.opening area.latest)
    ∷ every (residue_carried area) (residues_of sub)
    ∷ [])

-- an area whole; "numbers are distinct"
unfoldable pub area_within : Limits → Area → Bool
area_within most area =
    all_of (fields_within most area ∷ every (sub_carried area) (subs_of area) ∷ distinct (λ (sub : Sub). sub.number) (subs_of area) ∷ [])

unfoldable pub carried_within : Limits → Holding → Bool
carried_within most holding =
    all_of
    (leb holding.count most_areas
    ∷ every (area_within most) (areas_of holding)
    ∷ distinct (λ (area : Area). area.number) (areas_of holding)
    ∷ [])

-- ---- under the limits in force

abbrev pub amounts_carried : Area → Bool
amounts_carried = amounts_within limits

abbrev pub fields_carried : Area → Bool
fields_carried = fields_within limits

abbrev pub area_carried : Area → Bool
area_carried = area_within limits

abbrev pub carried : Holding → Bool
carried = carried_within limits
