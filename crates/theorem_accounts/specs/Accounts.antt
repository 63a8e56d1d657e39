-- Demand 3 for every list of entries: "Take every list of these steps from an empty holding, refused ones included: opening, sub-area,
-- clearing, planting, return and withdrawal entries .. Each step gets the holding that the last one left .. and a single table set serves all."
use Rattle.std.specs.Prelude.{◌*◌, ◌≤◌, ◌≡◌, ◌-ℤ◌, ◌*ℤ◌, None}
use Rattle.laws.specs.{ℕ, Bool, true, false, List, [], pos, nat_abs}
use Rattle.std.proofs.Math.Option.{Option, none, some}
use Rattle.line_entry.specs.{AreaAct}
use Rattle.holding.specs.{Area, Holding, empty_holding, subs_of, find_area}
use Rattle.holding_look.specs.{known, area_at}
use Rattle.step_outcome.specs.{Outcome}
use Rattle.step.specs.{holding_from, outcomes_from}
use Rattle.theorem_ledger.specs.{Row, row_number, ledger_of}
use Rattle.theorem_accounts.specs.Reports.{Reported, nothing_reported, reported_from}
use Rattle.theorem_accounts.specs.Reports.{total, lowest}
use Rattle.theorem_accounts.specs.Feeding.{under, fed, changes_from, returns_in}

-- what the engine holds after a list of entries, and what it answered
abbrev pub holding_after : List ℕ → List AreaAct → Holding
holding_after own es = holding_from own empty_holding es

abbrev pub outcomes_of : List ℕ → List AreaAct → List Outcome
outcomes_of own es = outcomes_from own empty_holding es

-- the steps that the ledger is fed, and its rows after them
abbrev pub steps_of : List ℕ → List AreaAct → List (AreaAct × Bool)
steps_of own es = fed es (outcomes_of own es)

abbrev pub ledger_after : List ℕ → List AreaAct → List Row
ledger_after own es = ledger_of own (steps_of own es)

-- what was reported for the area n
abbrev pub reported_for : List ℕ → List AreaAct → ℕ → Reported
reported_for own es n = reported_from n nothing_reported (outcomes_of own es)

-- the account of one area after the steps that the ledger was fed: what was reported for it, and its row in the ledger
pub record Accounted (own : List ℕ) (n : ℕ) (steps : List (AreaAct × Bool)) (reported : Reported) (row : Row) : Type 0 where
  -- "each return of an area has reported the change that the plain ledger in document 01 gives"
  pub each_change : reported.changes ≡ changes_from own n [] steps
  -- "A thousand times the sum of these tonnes differs from the ledger's closing stock less its opening stock, in kilograms, by at most 500
  -- times the number of returns."
  pub near : nat_abs (pos 1000 *ℤ total reported.changes -ℤ (pos row.closing -ℤ pos row.opening)) ≤ 500 * returns_in n steps
  -- "If the area isn't withdrawn, its unit balance equals that sum less the lowest value the running sum ever had, nought counted."
  pub balance : row.withdrawn ≡ false → pos reported.balance ≡ total reported.changes -ℤ lowest reported.changes
  -- "Units received less units surrendered equal that balance."
  pub paid : pos reported.received -ℤ pos reported.surrendered ≡ pos reported.balance
  -- "A withdrawn area has balance nought and has surrendered just what it received."
  pub over : row.withdrawn ≡ true → (reported.balance ≡ 0) × (reported.surrendered ≡ reported.received)
  -- the ledger's own figures: "The change is added to the sum, returns grow by one, and lowest becomes the smaller of itself and the sum."
  pub ledger_returns : row.returns ≡ returns_in n steps
  pub ledger_sum : row.sum ≡ total reported.changes
  pub ledger_lowest : row.lowest ≡ lowest reported.changes

-- "A statement written after the list shows these two totals, the number of returns and the closing stock": the area as it stands
pub record Shown (area : Area) (reported : Reported) (row : Row) : Type 0 where
  pub number : area.number ≡ row.number
  pub opening : area.opening ≡ row.opening_year
  pub received : area.received ≡ reported.received
  pub surrendered : area.surrendered ≡ reported.surrendered
  pub returns : area.returns ≡ row.returns
  pub stock : area.stock.0 ≡ row.closing
  pub withdrawn : area.withdrawn ≡ row.withdrawn
  pub subs : subs_of area ≡ row.subs

-- what holds of an area's number, by the ledger's row under it: of a number that has none nothing was reported, and no area stands
unfoldable pub Agrees : List ℕ → ℕ → Holding → List (AreaAct × Bool) → Reported → Option Row → Type 0
Agrees own n holding steps reported none = (reported ≡ nothing_reported) × (find_area holding n ≡ None)
Agrees own n holding steps reported (some row) =
    Accounted own n steps reported row × (known (find_area holding n) ≡ true) × Shown (area_at holding (find_area holding n)) reported row

-- the accounts of a table, a list of entries and an area's number
unfoldable pub AccountsAgree : List ℕ → List AreaAct → ℕ → Type 0
AccountsAgree own es n = Agrees own n (holding_after own es) (steps_of own es) (reported_for own es n) (under row_number n (ledger_after own es))
