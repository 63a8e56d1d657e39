-- "W,area: withdraws the area."
use Rattle.std.specs.Prelude.{◌+◌, ◌∷◌, Option}
use Rattle.laws.specs.{ℕ, not, List}
use Rattle.refusals.specs.{Case, ◌⇒◌, smallest, Refusal}
use Rattle.ranges.specs.{is_area}
use Rattle.holding.specs.{Area, with_units, as_withdrawn}
use Rattle.holding_look.specs.{Looked, balance_of}
use Rattle.step_outcome.specs.{Outcome, accepted, answered, area_cases, Report}

unfoldable pub withdraw_cases : ℕ → Option ℕ → Area → List Case
withdraw_cases number found area = not (is_area number) ⇒ Refusal.AreaOrSubNumber ∷ area_cases found area

-- "W makes the whole balance due."
unfoldable pub withdrawn_area : Area → Area
withdrawn_area area = as_withdrawn (with_units area.received (area.surrendered + balance_of area) area)

unfoldable pub withdrawn : Looked → Outcome
withdrawn looked =
    let area = looked.area in
    answered (smallest (withdraw_cases looked.number looked.found area))
    (accepted (Report.Withdrawal area.number (balance_of area)) looked.found looked.count (withdrawn_area area))
