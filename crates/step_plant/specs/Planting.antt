-- "P,area,sub,type,year plants (type not B)".
use Rattle.std.specs.Prelude.{◌&&◌, ◌||◌, ◌∷◌, ◌++◌, Option}
use Rattle.laws.specs.{ℕ, not, List, [], ltb}
use Rattle.refusals.specs.{Case, ◌⇒◌, smallest, Refusal}
use Rattle.forest.specs.{Forest}
use Rattle.ranges.specs.{is_bare, is_area, is_sub, is_year}
use Rattle.holding.specs.{Sub, Area, with_trees, find_sub}
use Rattle.holding_look.specs.{Looked, known, sub_at, with_sub}
use Rattle.step_outcome.specs.{Outcome, accepted, answered, area_cases, Report}

-- "28 sub unknown; .. 30 planting under trees; 31 year before the open or latest year", of an area that was looked up
unfoldable pub plant_cases : ℕ → ℕ → Forest → ℕ → Option ℕ → Area → List Case
plant_cases number sub forest year found area =
    let stand = find_sub area sub in
    not (is_area number && is_sub sub) ⇒ Refusal.AreaOrSubNumber
    ∷ is_bare forest ⇒ Refusal.ForestType
    ∷ not (is_year year) ⇒ Refusal.YearRange
    ∷ (area_cases found area
    ++ (not (known stand) ⇒ Refusal.SubUnknown
    ∷ not (is_bare (sub_at area stand).forest) ⇒ Refusal.PlantingUnderTrees
    ∷ (ltb year area.open_year || ltb year area.latest) ⇒ Refusal.YearBefore
    ∷ []))

-- the sub-area with trees of the entry's type and year; the residue stays
unfoldable pub planted_sub : Sub → Forest → ℕ → Sub
planted_sub sub forest year = with_trees forest year sub

unfoldable pub planted_area : Area → ℕ → Forest → ℕ → Area
planted_area area sub forest year = let stand = find_sub area sub in with_sub area stand (planted_sub (sub_at area stand) forest year) year

unfoldable pub planted : Looked → ℕ → Forest → ℕ → Outcome
planted looked sub forest year =
    let area = looked.area in
    answered (smallest (plant_cases looked.number sub forest year looked.found area))
    (accepted Report.Nothing looked.found looked.count (planted_area area sub forest year))
