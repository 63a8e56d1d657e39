-- An import is steps of demand 3: where the sheet is taken, one accepted S entry for each row, and else none; so what demand 3 says of every list of steps it
-- says of the holding after an import.
use Rattle.std.specs.Prelude.{Ok, Err}
use Rattle.laws.proofs.{ℕ, true, ◌≡◌, refl, sym, ap, ◌∙◌, List, [], ◌++◌, arith}
use Rattle.laws.specs.{every}
use Rattle.refusals.specs.{Refusal, Verdict}
use Rattle.table.specs.{is_table}
use Rattle.holding.specs.{Holding, empty_holding}
use Rattle.book_listing.specs.{if_accepted}
use Rattle.sheet_judge.specs.{sheet_verdict}
use Rattle.sheet_import.specs.{sheet_rows, Imported, imported_if, import_rows, import_onto}
use Rattle.theorem_demand_three.specs.{Step, holding_from, outcomes_from, holding_after}
use Rattle.theorem_demand_three.proofs.DemandThree.{demand_three}
use Rattle.theorem_running.specs.{enter_each, all_accepted}
use Rattle.theorem_sheets.specs.{sheet_acts, import_steps, ImportEntered, ImportAccounted}
use Rattle.theorem_sheets.proofs.Taken.{taken_all, entered_outcomes, entered-holding, steps_behind}
use Rattle.theorem_sheets.proofs.Imports.{Entered, if_refused, rows_refused, rows_entered}

module _ (own : List ℕ) (table : is_table own ≡ true) (holding : Holding) (sheet : List ℕ) where
  abbrev result : Imported
  result = import_onto own holding sheet

  refused_stays : (r : Refusal) → result.verdict ≡ Err r → result.holding ≡ holding
  unfolding import_onto
  refused_stays r e = if_refused (sheet_verdict sheet) holding _ r e (rows_refused own holding holding (sheet_rows sheet) r)

  sheet_entered : result.verdict ≡ Ok tt → Entered own holding (sheet_rows sheet) result (sheet_acts sheet)
  unfolding import_onto
  sheet_entered e = go (sheet_verdict sheet) e
    where
      rows : Imported
      rows = import_rows own holding holding (sheet_rows sheet)

      go : (v : Verdict) → (imported_if v holding rows).verdict ≡ Ok tt → Entered own holding (sheet_rows sheet) (imported_if v holding rows) (sheet_acts sheet)
      go (Ok _) e = rows_entered own table holding holding (sheet_rows sheet) e
      go (Err r) e = absurd (let z : ◌≡◌ {A = ℕ} 0 1 = cc in omega arith)

  -- by the import's verdict
  abbrev steps_if : Verdict → List Step
  steps_if v = if_accepted v (enter_each (sheet_acts sheet)) []

  steps_accepted : (v : Verdict) → result.verdict ≡ v → all_accepted (outcomes_from own holding (steps_if v)) ≡ true
  unfolding outcomes_from every
  steps_accepted (Err r) e = refl
  steps_accepted (Ok _) e =
      ap all_accepted (entered_outcomes own holding (sheet_acts sheet)) ∙ taken_all own holding (sheet_acts sheet) (sheet_entered e).taken

  steps_left : (v : Verdict) → result.verdict ≡ v → result.holding ≡ holding_from own holding (steps_if v)
  unfolding holding_from
  steps_left (Err r) e = refused_stays r e
  steps_left (Ok _) e = (sheet_entered e).left ∙ sym (entered-holding own holding (sheet_acts sheet))

  -- THE THEOREM, for every table, holding and sheet
  pub import_entered : ImportEntered own holding sheet
  import_entered = record {
    one_each = λ e. (sheet_entered e).one_each;
    additions = λ e. (sheet_entered e).additions;
    accepted = steps_accepted result.verdict refl;
    left = steps_left result.verdict refl;
  }

-- and demand 3 after an import
pub import_accounted : (own : List ℕ) → is_table own ≡ true → (steps : List Step) (sheet : List ℕ) (n : ℕ) → ImportAccounted own steps sheet n
import_accounted own table steps sheet n =
    let holding = holding_after own steps in
    let entered = import_entered own table holding sheet in
    record {
      entered = entered;
      left = entered.left ∙ sym (steps_behind own empty_holding steps (import_steps own holding sheet));
      demand = demand_three own (steps ++ import_steps own holding sheet) n;
    }
