-- Demand 3 for every row of the ledger: an accepted opening finds its number unused, so no two rows bear the same number, and each row is the
-- one under its number.
use Rattle.std.specs.Prelude.{Ok, Err, Some, None, Option as Found}
use Rattle.laws.proofs.{ℕ, ◌+◌, Bool, true, false, ◌≡◌, refl, subst, ◌∙◌, List, [], ◌∷◌, arith}
use mathlib.Core.List.{Memᴰ}
use mathlib.Core.Option.{Option, none, some}
use Rattle.laws.proofs.Distinct.{distinct_more}
use Rattle.laws.specs.{distinct}
use Rattle.refusals.specs.{Verdict, smallest}
use Rattle.refusals.proofs.Laws.{ruled_out}
use Rattle.table.specs.{is_table}
use Rattle.line_entry.specs.{Act, AreaAct, on}
use Rattle.holding.specs.{Area, Holding, areas_of, opened_area, empty_holding, find_area}
use Rattle.holding_look.specs.{known, looked_up}
use Rattle.step_outcome.specs.{Outcome, accepted, answered, placed, Report}
use Rattle.step_open.specs.{open_cases}
use Rattle.step_open.specs.Opening as Opening
use Rattle.step.specs.{applied, stepped, outcomes_from}
use Rattle.step.proofs.Entered.{step_is, step_turned}
use Rattle.theorem_ledger.specs.{Row, row_number, opened, entered, noted_step, noted}
use Rattle.theorem_accounts.specs.{Reported, nothing_reported, reported_with, under, is_accepted, fed, holding_after, steps_of, ledger_after, reported_for, Agrees, AccountsAgree}
use Rattle.theorem_accounts.proofs.Keyed.{standing_none}
use Rattle.theorem_accounts.proofs.Distinct.{none_bears, distinct-changed, listed-under}
use Rattle.theorem_accounts.proofs.Agreed.{area_number, Matched, Agreed}
use Rattle.theorem_accounts.proofs.Entries.{entry_keeps}
use Rattle.theorem_accounts.proofs.Accounts.{agreed_at_first, accounts_agree}

module _ (own : List ℕ) where
  -- an accepted opening finds no area of its number
  unused : (holding : Holding) (m year : ℕ) → is_accepted (stepped own holding (on m (Act.Open year))).verdict ≡ true → find_area holding m ≡ None
  unfolding applied Opening.opened answered open_cases
  unused holding m year = go (is_table own) refl
    where
      nowhere : (found : Found ℕ) → known found ≡ false → found ≡ None
      nowhere (Some i) e = let z : ◌≡◌ {A = ℕ} 0 1 = cc in absurd (omega arith)
      nowhere None e = refl

      judged : (v : Verdict) → smallest (open_cases (looked_up holding m) year) ≡ v
          → is_accepted (answered v (accepted Report.Nothing (Some holding.count) (holding.count + 1) (opened_area m year))).verdict ≡ true
          → find_area holding m ≡ None
      judged (Err refusal) v e = let z : ◌≡◌ {A = ℕ} 0 1 = cc in absurd (omega arith)
      judged (Ok _) v e = nowhere (find_area holding m) (ruled_out (open_cases (looked_up holding m) year) v 3)

      Unused : Outcome → Type 0
      Unused outcome = is_accepted outcome.verdict ≡ true → find_area holding m ≡ None

      go : (t : Bool) → is_table own ≡ t → Unused (stepped own holding (on m (Act.Open year)))
      go true table = subst Unused (step_is own holding (on m (Act.Open year)) table) (judged (smallest (open_cases (looked_up holding m) year)) refl)
      go false table =
          step_turned own holding (on m (Act.Open year)) Unused table (λ refusal few e. let z : ◌≡◌ {A = ℕ} 0 1 = cc in absurd (omega arith))

  module _ (holding : Holding) (rows : List Row) (reported : ℕ → Reported) (agreed : (n : ℕ) → Agreed n holding rows (reported n)) where
    unlisted : (m : ℕ) → find_area holding m ≡ None → under row_number m rows ≡ none
    unfolding find_area
    unlisted m e =
        go (under area_number m (areas_of holding)) (standing_none area_number m holding.areas holding.count e) (under row_number m rows) (agreed m).matched
      where
        go : (o : Option Area) → o ≡ none → (q : Option Row) → Matched o q (reported m) → q ≡ none
        go none e none k = refl
        go none e (some row) k = absurd k
        go (some area) e q k = let z : ◌≡◌ {A = ℕ} 0 1 = cc in absurd (omega arith)

    entry-distinct : (m : ℕ) (act : Act) → distinct row_number rows ≡ true → is_accepted (stepped own holding (on m act)).verdict ≡ true
        → distinct row_number (entered own m act rows) ≡ true
    unfolding entered
    entry-distinct m (Act.Open year) d t = distinct_more row_number rows (opened m year) (none_bears row_number m rows (unlisted m (unused holding m year t))) d
    entry-distinct m (Act.Add sub land forest year) d t = distinct-changed row_number _ (λ row. refl) m rows ∙ d
    entry-distinct m (Act.Clear sub year) d t = distinct-changed row_number _ (λ row. refl) m rows ∙ d
    entry-distinct m (Act.Plant sub forest year) d t = distinct-changed row_number _ (λ row. refl) m rows ∙ d
    entry-distinct m (Act.File last) d t = distinct-changed row_number _ (λ row. refl) m rows ∙ d
    entry-distinct m Act.Withdraw d t = distinct-changed row_number _ (λ row. refl) m rows ∙ d

  distinct-after : (es : List AreaAct) (holding : Holding) (rows : List Row) (reported : ℕ → Reported) → ((n : ℕ) → Agreed n holding rows (reported n))
      → distinct row_number rows ≡ true → distinct row_number (noted own rows (fed es (outcomes_from own holding es))) ≡ true
  unfolding outcomes_from fed noted
  distinct-after [] holding rows reported agreed d = d
  distinct-after (e ∷ es) holding rows reported agreed d =
      distinct-after es (placed holding o) (noted_step own rows e (is_accepted o.verdict)) (λ n. reported_with n (reported n) o.report)
      (λ n. entry_keeps own n holding rows (reported n) (agreed n) e) (go (is_accepted o.verdict) refl)
    where
      o : Outcome
      o = stepped own holding e

      go : (t : Bool) → is_accepted o.verdict ≡ t → distinct row_number (noted_step own rows e t) ≡ true
      go true t = entry-distinct holding rows reported agreed e.area e.act d t
      go false t = d

-- no two rows of the ledger bear the same number
pub rows_distinct : (own : List ℕ) (es : List AreaAct) → distinct row_number (ledger_after own es) ≡ true
unfolding distinct
rows_distinct own es = distinct-after own es empty_holding [] (λ n. nothing_reported) (λ n. agreed_at_first own n) refl

-- demand 3 for each row
pub each_row : (own : List ℕ) (es : List AreaAct) (row : Row) → Memᴰ row (ledger_after own es)
    → Agrees own row.number (holding_after own es) (steps_of own es) (reported_for own es row.number) (some row)
unfolding AccountsAgree
each_row own es row m =
    go (under row_number row.number (ledger_after own es)) (listed-under row_number row (ledger_after own es) (rows_distinct own es) m)
    (accounts_agree own es row.number)
  where
    Agreeing : Option Row → Type 0
    Agreeing q = Agrees own row.number (holding_after own es) (steps_of own es) (reported_for own es row.number) q

    go : (q : Option Row) → q ≡ some row → Agreeing q → Agreeing (some row)
    go q e h = rw (← e) h
