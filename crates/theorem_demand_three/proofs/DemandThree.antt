-- Demand 3, whole: a list of steps comes to what its entries alone come to, and those are accounted as the crate `accounts` shows. The area that
-- stands under a number has its line in the statement, and what its row and the reports say of it stands in that line.
use Rattle.std.specs.Prelude.{Some, None, Option as Found}
use Rattle.laws.proofs.{ℕ, Bool, true, ◌≡◌, refl, sym, ap, ◌∙◌, List, ◌∷◌, ◌++◌, arith, length, get_or}
use mathlib.Core.Option.{Option, none, some}
use Rattle.line_entry.specs.{AreaAct}
use Rattle.holding.specs.{Area, Holding, most_subs, subs_of, empty_sub, empty_area, empty_holding, find_area}
use Rattle.holding_look.specs.{known, area_at}
use Rattle.theorem_ledger.specs.{Row, row_number, ledger_of}
use Rattle.theorem_keeping.specs.{Kept}
use Rattle.theorem_keeping.proofs.Register.{found_inside, register_at}
use Rattle.theorem_keeping.proofs.Areas.{area_number}
use Rattle.theorem_keeping.proofs.Keeping.{empty_kept}
use Rattle.theorem_accounts.specs.{Reported, nothing_reported, under, Shown, Agrees, AccountsAgree}
use Rattle.theorem_accounts.proofs.Keyed.{under_bears}
use Rattle.theorem_accounts.proofs.Accounts.{accounts_agree}
use Rattle.statement_format.specs.{statement_of, flag}
use Rattle.theorem_round_trips.proofs.Arrays.{tidy-taken}
use Rattle.theorem_round_trips.proofs.Fitting.{holding-fits}
use Rattle.theorem_demand_three.specs.{Step, area_line, LineShown, Shows, holding_after, reported_for, fed_by, ledger_after, row_for, DemandThree}
use Rattle.theorem_demand_three.proofs.ReadBacks.{read_back_verdict, read_back_holding, entries_of, SameAlone, same-alone, steps_kept}
use Rattle.theorem_demand_three.proofs.Lines.{line_of, LineStands, line_stands}

-- the line of an area is the one that its row and the reports tell
module _ (statement : List ℕ) (area : Area) (n : ℕ) (reported : Reported) (row : Row) where
  line_agrees : Shown area reported row → row.number ≡ n → length (subs_of area) ≡ area.count
      → line_of area
      ≡ area_line n row.opening_year area.open_year area.latest (flag row.withdrawn) row.returns row.closing reported.received
      reported.surrendered (length row.subs)
  line_agrees shown bears count =
      let number : area.number ≡ n = shown.number ∙ bears in
      let opening = shown.opening in
      let withdrawn = shown.withdrawn in
      let returns = shown.returns in
      let stock = shown.stock in
      let received = shown.received in
      let surrendered = shown.surrendered in
      let subs : area.count ≡ length row.subs = sym count ∙ ap length shown.subs in
      cc

  line_shown : LineStands statement area → Shown area reported row → row.number ≡ n → length (subs_of area) ≡ area.count → LineShown statement n reported row
  line_shown line shown bears count = record {
    open_year = area.open_year;
    latest = area.latest;
    before = line.before;
    after = line.after;
    shown = line.stands ∙ ap (λ (l : List ℕ). line.before ++ (10 ∷ (l ++ line.after))) (line_agrees shown bears count);
  }

-- what the statement of a kept holding shows for a number, by the ledger's row under it
module _ (own : List ℕ) (n : ℕ) (holding : Holding) (kept : Kept holding) (steps : List (AreaAct × Bool)) (reported : Reported) (rows : List Row) where
  found-shown : (row : Row) (found : Found ℕ) → find_area holding n ≡ found → known found ≡ true → Shown (area_at holding found) reported row → row.number ≡ n
      → LineShown (statement_of holding) n reported row
  unfolding find_area area_at
  found-shown row None e stands shown bears = let z : ◌≡◌ {A = ℕ} 0 1 = cc in absurd (omega arith)
  found-shown row (Some i) e stands shown bears =
      let area = get_or holding.areas i empty_area in
      let inside = found_inside area_number n i holding.count holding.areas e in
      let subs = (register_at (holding-fits holding kept) n i empty_area e).subs in
      line_shown (statement_of holding) area n reported row (line_stands holding i inside.0 inside.1) shown bears
      (tidy-taken empty_sub most_subs area.count area.subs subs.room subs.tidy)

  pub statement_shows : (row : Option Row) → under row_number n rows ≡ row → Agrees own n holding steps reported row → Shows (statement_of holding) n reported row
  unfolding Agrees Shows
  statement_shows none e agrees = tt
  statement_shows (some row) e agrees = found-shown row (find_area holding n) refl agrees.1 agrees.2 (under_bears row_number n rows row e)

-- THE THEOREM of demand 3: for every participant's table, every list of steps and every area's number
pub demand_three : (own : List ℕ) (steps : List Step) (n : ℕ) → DemandThree own steps n
unfolding AccountsAgree
demand_three own steps n = record {
  accounts = agrees;
  statement = statement_shows own n holding kept (fed_by own steps) (reported_for own steps n) (ledger_after own steps) (row_for own steps n) refl agrees;
  read_back_verdict = λ out. read_back_verdict own holding out kept;
  read_back_same = λ out. read_back_holding own holding out kept;
}
  where
    holding : Holding
    holding = holding_after own steps

    kept : Kept holding
    kept = steps_kept own steps

    alone : SameAlone own empty_holding steps
    alone = same-alone own empty_holding steps empty_kept

    by : (h k : Holding) (f g : List (AreaAct × Bool)) (r q : Reported) → h ≡ k → f ≡ g → r ≡ q
        → Agrees own n k g q (under row_number n (ledger_of own g)) → Agrees own n h f r (under row_number n (ledger_of own f))
    by h k f g r q a b c agrees = rw (a, b, c) agrees

    agrees : Agrees own n holding (fed_by own steps) (reported_for own steps n) (row_for own steps n)
    agrees = by _ _ _ _ _ _ alone.holding_is alone.fed_is (alone.reported_is n nothing_reported) (accounts_agree own (entries_of steps) n)
