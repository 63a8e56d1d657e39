-- "S,area,sub,hectares,type,planted": a sub-area is added. "Its stock at the opening year is added to the area's opening stock."
use Rattle.std.specs.Prelude.{◌+◌, ◌&&◌, ◌∷◌, ◌++◌, Option}
use Rattle.laws.specs.{ℕ, not, List, [], eqb, ltb, leb, set}
use Rattle.refusals.specs.{Case, ◌⇒◌, smallest, Refusal}
use Rattle.units.specs.{Tenths}
use Rattle.forest.specs.{Forest}
use Rattle.ranges.specs.{is_area, is_sub, is_land, is_planted}
use Rattle.holding.specs.{Sub, Area, most_subs, no_residue, with_subs, with_stock, find_sub}
use Rattle.holding_look.specs.{Looked, known}
use Rattle.step_outcome.specs.{Outcome, accepted, answered, area_cases, Report}
use Rattle.stocks.specs.{sub_stock}

-- "Land cleared before its area opened enters without residue."
abbrev pub new_sub : ℕ → Tenths → Forest → ℕ → Sub
new_sub number land forest planted = record { number = number; tenths = land; forest = forest; planted = planted; residue = no_residue }

-- "25 sub already used; 26 sixteen subs stand; 27 area has filed"; "number 26 is then given at 48"; "32 planted after opening", of an area that was looked up
unfoldable pub add_cases : ℕ → Sub → Option ℕ → Area → List Case
add_cases number sub found area =
    not (is_area number && is_sub sub.number) ⇒ Refusal.AreaOrSubNumber
    ∷ not (is_land sub.tenths) ⇒ Refusal.Hectares
    ∷ not (is_planted sub.forest sub.planted) ⇒ Refusal.YearRange
    ∷ (area_cases found area
    ++ (known (find_sub area sub.number) ⇒ Refusal.SubUsed
    ∷ leb most_subs area.count ⇒ Refusal.SubsFull
    ∷ not (eqb area.returns 0) ⇒ Refusal.AreaFiled
    ∷ ltb area.opening sub.planted ⇒ Refusal.PlantedAfterOpening
    ∷ []))

unfoldable pub added_area : List ℕ → List ℕ → Area → Sub → Area
added_area own default area sub =
    with_stock (record { 0 = area.stock.0 + (sub_stock own default sub area.opening).0 })
    (with_subs (area.count + 1) (set area.subs area.count sub) area)

unfoldable pub added : List ℕ → List ℕ → Looked → Sub → Outcome
added own default looked sub =
    let area = looked.area in
    answered (smallest (add_cases looked.number sub looked.found area))
    (accepted Report.Nothing looked.found looked.count (added_area own default area sub))
