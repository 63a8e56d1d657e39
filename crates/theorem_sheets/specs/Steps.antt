-- An import as steps of demand 3, so that what demand 3 says of balances covers land that was imported.
use Rattle.std.specs.Prelude.{◌≡◌, ◌∷◌, ◌++◌, Ok}
use Rattle.laws.specs.{ℕ, true, List, [], length, every}
use Rattle.refusals.specs.{Verdict}
use Rattle.line_entry.specs.{AreaAct}
use Rattle.line.specs.{entry_of}
use Rattle.holding.specs.{Holding}
use Rattle.book_listing.specs.{if_accepted}
use Rattle.sheet_read.specs.{Row}
use Rattle.sheet_import.specs.{row_line, sheet_rows, import_onto}
use Rattle.theorem_running.specs.{acts_in, enter_each, all_accepted}
use Rattle.theorem_demand_three.specs.{Step, holding_from, outcomes_from, holding_after, DemandThree}
use Rattle.theorem_sheets.specs.GivingBack.{adds_sub}

-- the acts that rows are read as, in their order
unfoldable pub acts_of_rows : List Row → List AreaAct
acts_of_rows [] = []
acts_of_rows (row ∷ rows) = acts_in (entry_of (row_line row)) ++ acts_of_rows rows

abbrev pub sheet_acts : List ℕ → List AreaAct
sheet_acts sheet = acts_of_rows (sheet_rows sheet)

-- the steps that an import is: an entry for each act, and none where the sheet is refused
abbrev pub import_steps : List ℕ → Holding → List ℕ → List Step
import_steps own holding sheet = if_accepted (import_onto own holding sheet).verdict (enter_each (sheet_acts sheet)) []

-- for a participant's table, a holding and a sheet
pub record ImportEntered (own : List ℕ) (holding : Holding) (sheet : List ℕ) : Type 0 where
  -- a sheet that is taken has one act for each row, and each is an S entry's
  pub one_each : (import_onto own holding sheet).verdict ≡ Ok tt → length (sheet_acts sheet) ≡ length (sheet_rows sheet)
  pub additions : (import_onto own holding sheet).verdict ≡ Ok tt → every adds_sub (sheet_acts sheet) ≡ true
  -- the steps are accepted, each on the holding that the last left, and leave the holding of the import
  pub accepted : all_accepted (outcomes_from own holding (import_steps own holding sheet)) ≡ true
  pub left : (import_onto own holding sheet).holding ≡ holding_from own holding (import_steps own holding sheet)

-- demand 3 after an import onto what a list of steps has left
pub record ImportAccounted (own : List ℕ) (steps : List Step) (sheet : List ℕ) (n : ℕ) : Type 0 where
  pub entered : ImportEntered own (holding_after own steps) sheet
  pub left : (let holding = holding_after own steps in (import_onto own holding sheet).holding ≡ holding_after own (steps ++ import_steps own holding sheet))
  pub demand : DemandThree own (steps ++ import_steps own (holding_after own steps) sheet) n
