-- Demand 3, for every list of entries: an empty holding and an empty ledger agree under every number, each entry keeps the agreement and tells
-- the ledger's change, and so the whole list does. What agrees is accounted as the demand says.
use Rattle.std.specs.Prelude.{Some, None, Option as Found}
use Rattle.laws.proofs.{ℕ, ◌+◌, Bool, true, false, cond, ◌&&◌, ◌≡◌, refl, sym, ap, ◌∙◌, List, [], ◌∷◌, ◌++◌, append-nil, append_assoc, arith, length, length-append}
use mathlib.Core.Option.{Option, none, some}
use lib.IntN.{ℤ, pos, ◌-ℤ◌}
use Rattle.laws.specs.{keep}
use Rattle.laws.proofs.Signed.{ℤ-same, diff_read}
use Rattle.line_entry.specs.{AreaAct}
use Rattle.holding.specs.{Area, Holding, areas_of, empty_area, empty_holding, find_area}
use Rattle.holding_look.specs.{known, area_at}
use Rattle.step_outcome.specs.{placed}
use Rattle.step.specs.{stepped, holding_from, outcomes_from}
use Rattle.theorem_ledger.specs.{Row, row_number, noted_step, noted}
use Rattle.theorem_accounts.specs.{Reported, nothing_reported, reported_with, reported_from, total, lowest, under, is_accepted, fed, change_for, changes_from, is_return_of, returns_in, holding_after, steps_of, ledger_after, reported_for, Accounted, Shown, Agrees, AccountsAgree}
use Rattle.theorem_accounts.proofs.Keyed.{standing_here, standing_none}
use Rattle.theorem_accounts.proofs.Units.{Near}
use Rattle.theorem_accounts.proofs.Alike.{Alike}
use Rattle.theorem_accounts.proofs.Agreed.{area_number, Matched, Agreed}
use Rattle.theorem_accounts.proofs.Entries.{entry_keeps}
use Rattle.theorem_accounts.proofs.Changes.{entry_tells}

module _ (own : List ℕ) (n : ℕ) where
  -- the agreement after every list of entries
  pub agreed_after : (es : List AreaAct) (holding : Holding) (rows : List Row) (reported : Reported) → Agreed n holding rows reported
      → Agreed n (holding_from own holding es) (noted own rows (fed es (outcomes_from own holding es))) (reported_from n reported (outcomes_from own holding es))
  unfolding holding_from outcomes_from fed noted reported_from
  agreed_after [] holding rows reported agreed = agreed
  agreed_after (e ∷ es) holding rows reported agreed =
      let o = stepped own holding e in
      agreed_after es (placed holding o) (noted_step own rows e (is_accepted o.verdict)) (reported_with n reported o.report)
      (entry_keeps own n holding rows reported agreed e)

  -- what was reported are the ledger's changes
  pub changes-after : (es : List AreaAct) (holding : Holding) (rows : List Row) (reported : Reported) → Agreed n holding rows reported
      → (reported_from n reported (outcomes_from own holding es)).changes ≡ reported.changes ++ changes_from own n rows (fed es (outcomes_from own holding es))
  unfolding outcomes_from fed changes_from reported_from
  changes-after [] holding rows reported agreed = sym (append-nil reported.changes)
  changes-after (e ∷ es) holding rows reported agreed =
      let o = stepped own holding e in
      let taken = is_accepted o.verdict in
      let after = noted_step own rows e taken in
      let rest = changes_from own n after (fed es (outcomes_from own (placed holding o) es)) in
      changes-after es (placed holding o) after (reported_with n reported o.report) (entry_keeps own n holding rows reported agreed e)
      ∙ ap (λ (l : List ℤ). l ++ rest) (entry_tells own n holding rows reported agreed e).0
      ∙ append_assoc reported.changes (cond taken (change_for own n rows e.area e.act) []) rest

  one_more : (s : AreaAct × Bool) (steps : List (AreaAct × Bool)) → returns_in n (s ∷ steps) ≡ cond (s.1 && is_return_of n s.0) 1 0 + returns_in n steps
  unfolding returns_in keep
  one_more s steps = go (s.1 && is_return_of n s.0)
    where
      test : AreaAct × Bool → Bool
      test s = s.1 && is_return_of n s.0

      go : (t : Bool) → length (cond t (s ∷ keep test steps) (keep test steps)) ≡ cond t 1 0 + length (keep test steps)
      go true = omega arith
      go false = omega arith

  -- as many as the accepted returns
  pub returns-after : (es : List AreaAct) (holding : Holding) (rows : List Row) (reported : Reported) → Agreed n holding rows reported
      → length (changes_from own n rows (fed es (outcomes_from own holding es))) ≡ returns_in n (fed es (outcomes_from own holding es))
  unfolding outcomes_from fed changes_from returns_in keep
  returns-after [] holding rows reported agreed = refl
  returns-after (e ∷ es) holding rows reported agreed =
      let o = stepped own holding e in
      let taken = is_accepted o.verdict in
      let after = noted_step own rows e taken in
      let steps = fed es (outcomes_from own (placed holding o) es) in
      length-append (cond taken (change_for own n rows e.area e.act) []) (changes_from own n after steps)
      ∙ ap (λ (k : ℕ). k + length (changes_from own n after steps)) (entry_tells own n holding rows reported agreed e).1
      ∙ ap (λ (k : ℕ). cond (taken && is_return_of n e) 1 0 + k)
      (returns-after es (placed holding o) after (reported_with n reported o.report) (entry_keeps own n holding rows reported agreed e))
      ∙ sym (one_more (e, taken) steps)

  pub agreed_at_first : Agreed n empty_holding [] nothing_reported
  unfolding under
  agreed_at_first = record { places = refl; matched = refl }

-- an area and a row that are alike are accounted
module _ (own : List ℕ) (n : ℕ) (steps : List (AreaAct × Bool)) (area : Area) (reported : Reported) (row : Row) (alike : Alike area reported row) where
  near_by : (s t : ℤ) (j k : ℕ) → s ≡ t → j ≡ k → Near s row.opening row.closing j → Near t row.opening row.closing k
  near_by s t j k e f h = rw (← e, ← f) h

  balance_by : (s t v w : ℤ) → s ≡ t → v ≡ w → pos reported.balance ≡ s -ℤ v → pos reported.balance ≡ t -ℤ w
  balance_by s t v w e f h = rw (← e, ← f) h

  pub accounted : reported.changes ≡ changes_from own n [] steps → length (changes_from own n [] steps) ≡ returns_in n steps → Accounted own n steps reported row
  accounted changes count =
      let h = alike.settled in
      let returns : row.returns ≡ returns_in n steps = h.count_is ∙ ap length changes ∙ count in
      record {
        each_change = changes;
        near = near_by row.sum (total reported.changes) row.returns (returns_in n steps) h.sum_is returns h.near;
        balance = λ e.
            balance_by row.sum (total reported.changes) row.lowest (lowest reported.changes) h.sum_is h.lowest_is (h.live e).held;
        paid =
            ℤ-same (pos reported.received -ℤ pos reported.surrendered) (pos reported.balance)
            (omega (arith, h.paid, diff_read (pos reported.received) (pos reported.surrendered)));
        over = λ e. (h.over e, omega (arith, h.over e, h.paid));
        ledger_returns = returns;
        ledger_sum = h.sum_is;
        ledger_lowest = h.lowest_is;
      }

-- what stands under a number, by the engine's own search
module _ (n : ℕ) (holding : Holding) where
  stands_nowhere : (found : Found ℕ) → find_area holding n ≡ found → under area_number n (areas_of holding) ≡ none → find_area holding n ≡ None
  unfolding find_area
  stands_nowhere None e u = e
  stands_nowhere (Some i) e u =
      let s = sym u ∙ standing_here area_number n holding.areas holding.count i empty_area e in
      let z : ◌≡◌ {A = ℕ} 0 1 = cc in absurd (omega arith)

  stands_at : (area : Area) (found : Found ℕ) → find_area holding n ≡ found → under area_number n (areas_of holding) ≡ some area
      → (known found ≡ true) × (area_at holding found ≡ area)
  unfolding find_area area_at
  stands_at area None e u =
      let s = sym u ∙ standing_none area_number n holding.areas holding.count e in
      let z : ◌≡◌ {A = ℕ} 0 1 = cc in absurd (omega arith)
  stands_at area (Some i) e u = (refl, let s = sym u ∙ standing_here area_number n holding.areas holding.count i empty_area e in cc)

-- for every table, every list of entries and every area's number
pub accounts_agree : (own : List ℕ) (es : List AreaAct) (n : ℕ) → AccountsAgree own es n
unfolding AccountsAgree Agrees
accounts_agree own es n = go (under area_number n (areas_of holding)) refl (under row_number n (ledger_after own es)) agreed.matched
  where
    holding : Holding
    holding = holding_after own es

    reported : Reported
    reported = reported_for own es n

    start : Agreed n empty_holding [] nothing_reported
    start = agreed_at_first own n

    agreed : Agreed n holding (ledger_after own es) reported
    agreed = agreed_after own n es empty_holding [] nothing_reported start

    shown : (area a : Area) (row : Row) → a ≡ area → Alike area reported row → Shown a reported row
    shown area a row e k = rw e k.shown

    go : (o : Option Area) → under area_number n (areas_of holding) ≡ o → (q : Option Row) → Matched o q reported
        → Agrees own n holding (steps_of own es) reported q
    go none u none k = (k, stands_nowhere n holding (find_area holding n) refl u)
    go none u (some row) k = absurd k
    go (some area) u none k = absurd k
    go (some area) u (some row) k =
        let s = stands_at n holding area (find_area holding n) refl u in
        let changes = changes-after own n es empty_holding [] nothing_reported start in
        let count = returns-after own n es empty_holding [] nothing_reported start in
        (accounted own n (steps_of own es) area reported row k changes count, s.0, shown area (area_at holding (find_area holding n)) row s.1 k)
