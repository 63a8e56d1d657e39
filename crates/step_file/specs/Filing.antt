-- "R,area,last: return from the open year to 31 December of last .."
use Rattle.std.specs.Prelude.{◌+◌, ◌||◌, ◌∷◌, ◌++◌, Option}
use Rattle.laws.specs.{ℕ, min, not, List, [], ltb}
use Rattle.refusals.specs.{Case, ◌⇒◌, smallest, Refusal}
use Rattle.units.specs.{Change, change_between}
use Rattle.ranges.specs.{is_area, is_year}
use Rattle.holding.specs.{Area, with_stock, with_units, with_returns}
use Rattle.holding_look.specs.{Looked, balance_of}
use Rattle.step_outcome.specs.{Report, Outcome, accepted, answered, area_cases}
use Rattle.stocks.specs.{area_stock}
use Rattle.step_file.specs.declared.Settled.{Settled}

-- "31 year before the open or latest year", of an area that was looked up
unfoldable pub file_cases : ℕ → ℕ → Option ℕ → Area → List Case
file_cases number last found area =
    not (is_area number) ⇒ Refusal.AreaOrSubNumber
    ∷ not (is_year last) ⇒ Refusal.YearRange
    ∷ (area_cases found area ++ ((ltb last area.open_year || ltb last area.latest) ⇒ Refusal.YearBefore ∷ []))

-- "A positive change is received"
abbrev pub received_of : Change → ℕ
received_of (Change.Gain tonnes) = tonnes
received_of (Change.Loss tonnes) = 0

-- "a negative one makes due the smaller of its size and the area's balance"
abbrev pub due_of : Change → ℕ → ℕ
due_of (Change.Gain tonnes) balance = 0
due_of (Change.Loss tonnes) balance = min tonnes balance

-- "A return's opening stock is the previous closing stock, or the area's opening stock for the first; closing stock is the sum over sub-areas at last + 1. Their difference in kg goes to the nearest tonne .. : the change."
unfoldable pub change_of : List ℕ → List ℕ → Area → ℕ → Change
change_of own default area last = change_between area.stock (area_stock own default area (last + 1))

-- "The open year becomes last + 1."
unfoldable pub filed_area : List ℕ → List ℕ → Area → ℕ → Area
filed_area own default area last =
    let change = change_of own default area last in
    with_returns (last + 1) (area.returns + 1)
    (with_stock (area_stock own default area (last + 1))
    (with_units (area.received + received_of change) (area.surrendered + due_of change (balance_of area)) area))

-- "R: area, first and last year, change, received, due, balance"
unfoldable pub return_of : List ℕ → List ℕ → Area → ℕ → Report
return_of own default area last =
    let change = change_of own default area last in
    Report.Return (record {
      area = area.number;
      first = area.open_year;
      last = last;
      change = change;
      received = received_of change;
      due = due_of change (balance_of area);
      balance = balance_of (filed_area own default area last);
    })

abbrev pub settled_of : List ℕ → List ℕ → Area → ℕ → Settled
settled_of own default area last = record { report = return_of own default area last; area = filed_area own default area last }

unfoldable pub filed : List ℕ → List ℕ → Looked → ℕ → Outcome
filed own default looked last =
    let area = looked.area in
    answered (smallest (file_cases looked.number last looked.found area))
    (accepted (return_of own default area last) looked.found looked.count (filed_area own default area last))
