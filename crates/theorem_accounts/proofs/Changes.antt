-- A step reports for an area just the change that the ledger gives: one if it is an accepted return of the area, whose stock and sub-areas
-- are the row's, and otherwise none.
use Rattle.std.specs.Prelude.{Ok, Err, Some, None, Option as Found}
use Rattle.laws.proofs.{ℕ, Bool, true, false, cond, ◌&&◌, ◌≡◌, refl, sym, ap, subst, ◌∙◌, List, [], ◌∷◌, ◌++◌, append-nil, arith, eqb-true, eqb, length}
use mathlib.Core.Option.{Option, none, some}
use lib.IntN.{ℤ}
use Rattle.refusals.specs.{Verdict, smallest}
use Rattle.refusals.proofs.Laws.{RuledOut, ruled_out}
use Rattle.units.specs.{value}
use Rattle.schedules.specs.{schedule6}
use Rattle.table.specs.{is_table}
use Rattle.line_entry.specs.{Act, AreaAct}
use Rattle.holding.specs.{Area, Holding, areas_of, empty_area, find_area}
use Rattle.holding_look.specs.{known, area_at, balance_of, looked_up}
use Rattle.step_outcome.specs.{Report, Outcome, accepted, answered, turned_back, area_cases}
use Rattle.step_open.specs.{opened}
use Rattle.step_add.specs.{added}
use Rattle.step_clear.specs.{cleared}
use Rattle.step_plant.specs.{planted}
use Rattle.step_file.specs.{file_cases, filed_area, return_of, filed}
use Rattle.step_file.specs.Filing as Filing
use Rattle.step_withdraw.specs.{withdrawn}
use Rattle.step.specs.{acted, applied, stepped}
use Rattle.step.proofs.Entered.{step_is, step_turned}
use Rattle.theorem_ledger.specs.{Row, row_number}
use Rattle.theorem_accounts.specs.{Reported, reported_with, under, is_accepted, change_by, change_for, is_return, is_return_of}
use Rattle.theorem_accounts.proofs.Keyed.{standing_here}
use Rattle.theorem_accounts.proofs.Alike.{Alike, with_return, with_withdrawal, change_alike}
use Rattle.theorem_accounts.proofs.Agreed.{area_number, Matched, Agreed}
use Rattle.theorem_accounts.proofs.Numbers.{bearing, same_number}
use Rattle.theorem_accounts.proofs.Entries.{not_false}

-- the row of an area that stands
record Paired (n : ℕ) (rows : List Row) (reported : Reported) (area : Area) : Type 0 where
  row : Row
  listed : under row_number n rows ≡ some row
  alike : Alike area reported row

module _ (own : List ℕ) (n : ℕ) (holding : Holding) (rows : List Row) (reported : Reported) where
  -- what an outcome tells: the ledger's change of an accepted step, which is one if the step is a return of the area
  abbrev pub Tells : Outcome → List ℤ → Bool → Type 0
  Tells outcome change is_return =
      let taken = is_accepted outcome.verdict in
      ((reported_with n reported outcome.report).changes ≡ reported.changes ++ cond taken change [])
      × (length (cond taken change []) ≡ cond (taken && is_return) 1 0)

  turned_tells : (refusal : _) (change : List ℤ) (is_return : Bool) → Tells (turned_back refusal) change is_return
  unfolding reported_with
  turned_tells refusal change is_return = (sym (append-nil reported.changes), refl)

  -- a step that is no return
  quiet : (v : Verdict) (report : Report) (place : Found ℕ) (count : ℕ) (area : Area) → (reported_with n reported report).changes ≡ reported.changes
      → Tells (answered v (accepted report place count area)) [] false
  unfolding answered
  quiet (Err refusal) report place count area e = turned_tells refusal [] false
  quiet (Ok _) report place count area e = (e ∙ sym (append-nil reported.changes), refl)

  quietly : (reported_with n reported Report.Nothing).changes ≡ reported.changes
  unfolding reported_with
  quietly = refl

  withdrawn_quietly : (m due : ℕ) → (reported_with n reported (Report.Withdrawal m due)).changes ≡ reported.changes
  unfolding reported_with
  withdrawn_quietly m due = go (eqb m n)
    where
      go : (t : Bool)
          → (cond t (with_withdrawal reported due) reported).changes ≡ reported.changes
      go true = refl
      go false = refl

  module _ (agreed : Agreed n holding rows reported) where
    paired : (found : Found ℕ) → find_area holding n ≡ found → known found ≡ true → Paired n rows reported (area_at holding found)
    unfolding find_area area_at
    paired None e k = let z : ◌≡◌ {A = ℕ} 0 1 = cc in absurd (omega arith)
    paired (Some i) e k =
        go (under area_number n (areas_of holding)) (standing_here area_number n holding.areas holding.count i empty_area e)
        (under row_number n rows) refl agreed.matched
      where
        go : (o : Option Area) → o ≡ some (area_at holding (Some i)) → (q : Option Row) → under row_number n rows ≡ q → Matched o q reported
            → Paired n rows reported (area_at holding (Some i))
        go none e q u k = let z : ◌≡◌ {A = ℕ} 0 1 = cc in absurd (omega arith)
        go (some area) e none u k = absurd k
        go (some area) e (some row) u k = record { row = row; listed = u; alike = rw (let s : area_at holding (Some i) ≡ area = cc in s) k }

    filed_tells : (m last : ℕ) → Tells (filed own schedule6 (looked_up holding m) last) (cond (eqb m n) (change_by own last (under row_number n rows)) []) (eqb m n)
    unfolding filed return_of file_cases area_cases answered reported_with
    filed_tells m last =
        subst (λ (o : Outcome). Tells o (cond (eqb m n) (change_by own last (under row_number n rows)) []) (eqb m n))
        (same_number holding m (file_cases m last found area) (λ (k : ℕ). accepted (bearing k (return_of own schedule6 area last)) found holding.count next) stands)
        (go (smallest (file_cases m last found area)) refl)
      where
        found : Found ℕ
        found = find_area holding m

        area : Area
        area = area_at holding found

        next : Area
        next = filed_area own schedule6 area last

        stands : RuledOut (file_cases m last found area) → known found ≡ true
        stands out = not_false (known found) (out 3)

        rowed : (row : Row) (q : Option Row) → q ≡ some row → Alike area reported row
            → (reported.changes ++ (value (Filing.change_of own schedule6 area last) ∷ []) ≡ reported.changes ++ change_by own last q)
            × (length (change_by own last q) ≡ 1)
        rowed row q u k = rw u (ap (λ (x : ℤ). reported.changes ++ (x ∷ [])) (change_alike own area reported row k last), refl)

        at : (t : Bool) → eqb m n ≡ t → known found ≡ true
            → ((cond t (with_return reported (Filing.change_of own schedule6 area last) (balance_of area) (balance_of next)) reported).changes
            ≡ reported.changes ++ cond t (change_by own last (under row_number n rows)) [])
            × (length (cond t (change_by own last (under row_number n rows)) []) ≡ cond t 1 0)
        at false t k = (sym (append-nil reported.changes), refl)
        at true t k =
            let p = paired found (ap (find_area holding) (sym (eqb-true m n t))) k in
            rowed p.row (under row_number n rows) p.listed p.alike

        go : (v : Verdict) → smallest (file_cases m last found area) ≡ v
            → Tells (answered v (accepted (bearing m (return_of own schedule6 area last)) found holding.count next))
            (cond (eqb m n) (change_by own last (under row_number n rows)) []) (eqb m n)
        go (Err refusal) v = turned_tells refusal (cond (eqb m n) (change_by own last (under row_number n rows)) []) (eqb m n)
        go (Ok _) v = at (eqb m n) refl (stands (ruled_out (file_cases m last found area) v))

    acted_tells : (area : ℕ) (act : Act)
        → Tells (acted own schedule6 (looked_up holding area) act) (change_for own n rows area act) (is_return act && eqb area n)
    unfolding opened added cleared planted withdrawn
    acted_tells area (Act.Open opening) = quiet _ Report.Nothing _ _ _ quietly
    acted_tells area (Act.Add sub land forest year) = quiet _ Report.Nothing _ _ _ quietly
    acted_tells area (Act.Clear sub year) = quiet _ Report.Nothing _ _ _ quietly
    acted_tells area (Act.Plant sub forest year) = quiet _ Report.Nothing _ _ _ quietly
    acted_tells area (Act.File last) = filed_tells area last
    acted_tells area Act.Withdraw = quiet _ (Report.Withdrawal _ _) _ _ _ (withdrawn_quietly _ _)

    pub entry_tells : (e : AreaAct) → Tells (stepped own holding e) (change_for own n rows e.area e.act) (is_return_of n e)
    unfolding applied
    entry_tells e = go (is_table own) refl
      where
        Told : Outcome → Type 0
        Told outcome = Tells outcome (change_for own n rows e.area e.act) (is_return_of n e)

        go : (t : Bool) → is_table own ≡ t → Told (stepped own holding e)
        go true table = subst Told (step_is own holding e table) (acted_tells e.area e.act)
        go false table = step_turned own holding e Told table (λ refusal few. turned_tells refusal (change_for own n rows e.area e.act) (is_return_of n e))
