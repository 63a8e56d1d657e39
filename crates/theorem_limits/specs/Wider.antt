-- Limits that are widened: "A holding with no area above 16 sub-areas is written just as before, and each old statement is still read." (document 02,
-- item 4)
use Rattle.std.specs.Prelude.{◌-◌, ◌≤◌, ◌≡◌, ◌++◌, Ok}
use Rattle.laws.specs.{ℕ, List, map, replicate}
use Rattle.refusals.specs.{Verdict}
use Rattle.holding.specs.{Area, Holding, areas_of, subs_of, empty_sub, with_subs}
use Rattle.statement_carried.specs.{Limits}
use Rattle.statement_format.specs.{statement_of}
use Rattle.statement.specs.{read_within}
use Rattle.theorem_keeping.specs.{Each, TidyHoldingIn}

-- each limit is at most the other one
pub record Narrower (few more : Limits) : Type 0 where
  pub subs : few.subs ≤ more.subs
  pub stock : few.stock ≤ more.stock
  pub received : few.received ≤ more.received

-- the same area, and the same holding, with so many places for sub-areas in each area: those that stand in front, and behind them none
abbrev pub area_in_places : ℕ → Area → Area
area_in_places places area = with_subs area.count (subs_of area ++ replicate (places - area.count) empty_sub) area

abbrev pub holding_in_places : ℕ → Holding → Holding
holding_in_places places holding = record { count = holding.count; areas = map (area_in_places places) holding.areas }

-- "A holding with no area above 16 sub-areas"
abbrev pub NoneAbove : ℕ → Holding → Type 0
NoneAbove most holding = Each (λ (area : Area). area.count ≤ most) (areas_of holding)

-- "is written just as before": under the earlier limits it has its places, and the same statement
pub record WrittenAsBefore (most : Limits) (holding : Holding) : Type 0 where
  pub tidy : TidyHoldingIn most.subs (holding_in_places most.subs holding)
  pub same : statement_of (holding_in_places most.subs holding) ≡ statement_of holding

-- "and each old statement is still read": what the earlier limits accept is accepted, as the same holding
abbrev pub StillRead : Limits → Limits → List ℕ → Type 0
StillRead few more s =
    (read_within few s).verdict ≡ Ok tt
    → read_within more s ≡ record { verdict = (Ok tt); holding = holding_in_places more.subs (read_within few s).holding }
