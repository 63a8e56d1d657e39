-- "C,area,sub,year clears".
use Rattle.std.specs.Prelude.{◌-◌, ◌&&◌, ◌||◌, ◌∷◌, ◌++◌, Option}
use Rattle.laws.specs.{ℕ, not, List, [], ltb}
use Rattle.refusals.specs.{Case, ◌⇒◌, smallest, Refusal}
use Rattle.forest.specs.{Forest}
use Rattle.ranges.specs.{is_bare, is_area, is_sub, is_year}
use Rattle.holding.specs.{Sub, Area, with_trees, with_residue, find_sub}
use Rattle.holding_look.specs.{Looked, known, sub_at, with_sub}
use Rattle.step_outcome.specs.{Outcome, accepted, answered, area_cases, Report}

-- "28 sub unknown; 29 clearing bare land; .. 31 year before the open or latest year", of an area and a sub-area that were looked up
unfoldable pub clear_cases : ℕ → ℕ → ℕ → Option ℕ → Area → List Case
clear_cases number sub year found area =
    let stand = find_sub area sub in
    not (is_area number && is_sub sub) ⇒ Refusal.AreaOrSubNumber
    ∷ not (is_year year) ⇒ Refusal.YearRange
    ∷ (area_cases found area
    ++ (not (known stand) ⇒ Refusal.SubUnknown
    ∷ is_bare (sub_at area stand).forest ⇒ Refusal.ClearingBareLand
    ∷ (ltb year area.open_year || ltb year area.latest) ⇒ Refusal.YearBefore
    ∷ []))

-- the sub-area without its trees: "residue of the latest clearing"; "A new clearing replaces older residue."
unfoldable pub cleared_sub : Sub → ℕ → Sub
cleared_sub sub year = with_residue (record { forest = sub.forest; age = year - sub.planted; year = year }) (with_trees Forest.Bare 0 sub)

unfoldable pub cleared_area : Area → ℕ → ℕ → Area
cleared_area area sub year = let stand = find_sub area sub in with_sub area stand (cleared_sub (sub_at area stand) year) year

unfoldable pub cleared : Looked → ℕ → ℕ → Outcome
cleared looked sub year =
    let area = looked.area in
    answered (smallest (clear_cases looked.number sub year looked.found area))
    (accepted Report.Nothing looked.found looked.count (cleared_area area sub year))
