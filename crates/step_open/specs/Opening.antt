-- "A,area,opening: opens an area on 1 January of opening .."
use Rattle.std.specs.Prelude.{◌+◌, ◌∷◌, Some}
use Rattle.laws.specs.{ℕ, not, List, [], leb}
use Rattle.refusals.specs.{Case, ◌⇒◌, smallest, Refusal}
use Rattle.ranges.specs.{is_area, is_year}
use Rattle.holding.specs.{most_areas, opened_area}
use Rattle.holding_look.specs.{Looked, known}
use Rattle.step_outcome.specs.{Outcome, accepted, answered, uncarried, Report}

-- "21 area already used"; "24 sixteen areas stand"
unfoldable pub open_cases : Looked → ℕ → List Case
open_cases looked opening =
    not (is_area looked.number) ⇒ Refusal.AreaOrSubNumber
    ∷ not (is_year opening) ⇒ Refusal.YearRange
    ∷ uncarried looked.found looked.area ⇒ Refusal.CarriedStatement
    ∷ known looked.found ⇒ Refusal.AreaUsed
    ∷ leb most_areas looked.count ⇒ Refusal.AreasFull
    ∷ []

-- the area of the number that was looked for
unfoldable pub opened : Looked → ℕ → Outcome
opened looked opening =
    answered (smallest (open_cases looked opening))
    (accepted Report.Nothing (Some looked.count) (looked.count + 1) (opened_area looked.number opening))
