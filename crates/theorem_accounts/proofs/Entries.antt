-- Each entry keeps the agreement under a number. A refused one changes nothing; an accepted one was refused by none of its cases, so that
-- its area stands, and it changes area, row and reports alike.
use Rattle.std.specs.Prelude.{Ok, Err, Some, None, Option}
use Rattle.laws.proofs.{ℕ, ◌+◌, Bool, true, false, cond, not, ◌≡◌, refl, sym, subst, ◌∙◌, List, [], ◌∷◌, ◌++◌, arith, leb-false, eq-eqb, ne_eqb}
use Rattle.refusals.specs.{Verdict, Case, smallest}
use Rattle.refusals.proofs.Laws.{RuledOut, ruled_out}
use Rattle.forest.specs.{Forest}
use Rattle.schedules.specs.{schedule6}
use Rattle.table.specs.{is_table}
use Rattle.line_entry.specs.{Act, AreaAct}
use Rattle.holding.specs.{Sub, Area, Holding, most_areas, most_subs, opened_area, find_area, find_sub}
use Rattle.holding_look.specs.{known, area_at, with_sub, balance_of, looked_up}
use Rattle.step_outcome.specs.{Report, Outcome, accepted, answered, turned_back, placed, area_cases}
use Rattle.step_open.specs.{open_cases}
use Rattle.step_open.specs.Opening as Opening
use Rattle.step_add.specs.{new_sub, add_cases, added_area}
use Rattle.step_add.specs.Adding as Adding
use Rattle.step_clear.specs.{clear_cases, cleared_sub, cleared_area}
use Rattle.step_clear.specs.Clearing as Clearing
use Rattle.step_plant.specs.{plant_cases, planted_sub, planted_area}
use Rattle.step_plant.specs.Planting as Planting
use Rattle.step_file.specs.{file_cases, filed_area, return_of}
use Rattle.step_file.specs.Filing as Filing
use Rattle.step_withdraw.specs.{withdraw_cases, withdrawn_area}
use Rattle.step_withdraw.specs.Withdrawing as Withdrawing
use Rattle.step.specs.{acted, applied, stepped}
use Rattle.step.proofs.Entered.{step_is, step_turned}
use Rattle.theorem_ledger.specs.{change, Row, row_number, sub_number, with_subs, withdrawn_row, entered}
use Rattle.theorem_ledger.specs.Ledger as Ledger
use Rattle.theorem_accounts.specs.{Reported, reported_with, is_accepted}
use Rattle.theorem_accounts.proofs.Alike.{Alike, added_alike, sub_alike, returned_alike, withdrawn_alike}
use Rattle.theorem_accounts.proofs.Numbers.{bearing, same_number}
use Rattle.theorem_accounts.proofs.Agreed.{Agreed, opened_agreed, changed_agreed}

-- what an outcome makes of the agreement, where `after` are the rows that the ledger has if the step was accepted
abbrev pub AgreedAfter : ℕ → Holding → List Row → Reported → Outcome → List Row → Type 0
AgreedAfter n holding rows reported outcome after =
    Agreed n (placed holding outcome) (cond (is_accepted outcome.verdict) after rows) (reported_with n reported outcome.report)

pub not_false : (b : Bool) → not b ≡ false → b ≡ true
not_false true e = refl
not_false false e = sym e

module _ (own : List ℕ) (n : ℕ) (holding : Holding) (rows : List Row) (reported : Reported) (agreed : Agreed n holding rows reported) where
  abbrev Keeps : Outcome → List Row → Type 0
  Keeps outcome after = AgreedAfter n holding rows reported outcome after

  turned_keeps : (refusal : _) (after : List Row) → Keeps (turned_back refusal) after
  unfolding placed reported_with
  turned_keeps refusal after = agreed

  -- an entry of an area that was looked up under its number
  module _ (m : ℕ) where
    found : Option ℕ
    found = find_area holding m

    area : Area
    area = area_at holding found

    area_keeps : (cs : List Case) (next : Area) (f : Row → Row) (report : Report) → (RuledOut cs → known found ≡ true)
        → next.number ≡ area.number → ((row : Row) → (f row).number ≡ row.number)
        → (RuledOut cs → m ≡ n → (row : Row) → Alike area reported row → Alike next (reported_with n reported report) (f row))
        → ((m ≡ n → ⊥) → reported_with n reported report ≡ reported)
        → Keeps (answered (smallest cs) (accepted report found holding.count next)) (change row_number m f rows)
    unfolding answered placed found area area_at
    area_keeps cs next f report stands number row_numbered alike other = go (smallest cs) refl
      where
        at : (p : Option ℕ) → find_area holding m ≡ p → RuledOut cs → known p ≡ true → next.number ≡ (area_at holding p).number
            → (m ≡ n → (row : Row) → Alike (area_at holding p) reported row → Alike next (reported_with n reported report) (f row))
            → Keeps (accepted report p holding.count next) (change row_number m f rows)
        at None e h k q alike = let z : ◌≡◌ {A = ℕ} 0 1 = cc in absurd (omega arith)
        at (Some i) e h k q alike = changed_agreed n holding rows reported agreed m i e next f (reported_with n reported report) q row_numbered alike other

        go : (v : Verdict) → smallest cs ≡ v → Keeps (answered v (accepted report (find_area holding m) holding.count next)) (change row_number m f rows)
        go (Err refusal) v = turned_keeps refusal (change row_number m f rows)
        go (Ok _) v = let h = ruled_out cs v in at (find_area holding m) refl h (stands h) number (alike h)

    added_keeps : (sub : Sub) → Keeps (Adding.added own schedule6 (looked_up holding m) sub) (change row_number m (Ledger.added own sub) rows)
    unfolding Adding.added added_area add_cases area_cases found area reported_with
    added_keeps sub =
        area_keeps (add_cases m sub found area) (added_area own schedule6 area sub) (Ledger.added own sub) Report.Nothing
        (λ h. not_false (known found) (h 4)) refl (λ row. refl)
        (λ h e row k. added_alike own area reported row k sub (leb-false most_subs area.count (h 7)))
        (λ d. refl)

    cleared_keeps : (sub year : ℕ)
        → Keeps (Clearing.cleared (looked_up holding m) sub year) (change row_number m (with_subs (change sub_number sub (Ledger.cleared year))) rows)
    unfolding Clearing.cleared cleared_area cleared_sub clear_cases area_cases with_sub found area reported_with
    cleared_keeps sub year =
        area_keeps (clear_cases m sub year found area) (cleared_area area sub year)
        (with_subs (change sub_number sub (Ledger.cleared year))) Report.Nothing
        (λ h. not_false (known found) (h 3)) refl (λ row. refl)
        (λ h e row k.
        sub_alike own area reported row k sub year (Ledger.cleared year) (find_sub area sub) refl
        (not_false (known (find_sub area sub)) (h 5)))
        (λ d. refl)

    planted_keeps : (sub : ℕ) (forest : Forest) (year : ℕ)
        → Keeps (Planting.planted (looked_up holding m) sub forest year) (change row_number m (with_subs (change sub_number sub (Ledger.planted forest year))) rows)
    unfolding Planting.planted planted_area planted_sub plant_cases area_cases with_sub found area reported_with
    planted_keeps sub forest year =
        area_keeps (plant_cases m sub forest year found area) (planted_area area sub forest year)
        (with_subs (change sub_number sub (Ledger.planted forest year))) Report.Nothing
        (λ h. not_false (known found) (h 4)) refl (λ row. refl)
        (λ h e row k.
        sub_alike own area reported row k sub year (Ledger.planted forest year) (find_sub area sub) refl
        (not_false (known (find_sub area sub)) (h 6)))
        (λ d. refl)

    -- what is reported bears the number that was looked for
    report_keeps : (cs : List Case) (next : Area) (report : Report) (after : List Row) → (RuledOut cs → known found ≡ true)
        → Keeps (answered (smallest cs) (accepted (bearing m report) found holding.count next)) after
        → Keeps (answered (smallest cs) (accepted (bearing area.number report) found holding.count next)) after
    unfolding found area
    report_keeps cs next report after stands =
        subst (λ (o : Outcome). Keeps o after) (same_number holding m cs (λ (k : ℕ). accepted (bearing k report) found holding.count next) stands)

    filed_keeps : (last : ℕ) → Keeps (Filing.filed own schedule6 (looked_up holding m) last) (change row_number m (Ledger.returned own last) rows)
    unfolding Filing.filed filed_area return_of file_cases area_cases found area reported_with
    filed_keeps last =
        report_keeps (file_cases m last found area) (filed_area own schedule6 area last) (return_of own schedule6 area last) _ (λ h. not_false (known found) (h 3))
        (area_keeps (file_cases m last found area) (filed_area own schedule6 area last) (Ledger.returned own last) (bearing m (return_of own schedule6 area last))
        (λ h. not_false (known found) (h 3)) refl (λ row. refl)
        (λ h e row k. rw (eq-eqb m n e) (returned_alike own area reported row k last (sym k.shown.withdrawn ∙ h 4)))
        (λ d. rw (ne_eqb m n d)))

    withdrawn_keeps : Keeps (Withdrawing.withdrawn (looked_up holding m)) (change row_number m withdrawn_row rows)
    unfolding Withdrawing.withdrawn withdrawn_area withdraw_cases area_cases found area reported_with
    withdrawn_keeps =
        report_keeps (withdraw_cases m found area) (withdrawn_area area) (Report.Withdrawal m (balance_of area)) _ (λ h. not_false (known found) (h 2))
        (area_keeps (withdraw_cases m found area) (withdrawn_area area) withdrawn_row (Report.Withdrawal m (balance_of area))
        (λ h. not_false (known found) (h 2)) refl (λ row. refl)
        (λ h e row k. rw (eq-eqb m n e) (withdrawn_alike own area reported row k))
        (λ d. rw (ne_eqb m n d)))

    opened_keeps : (year : ℕ) → Keeps (Opening.opened (looked_up holding m) year) (rows ++ (Ledger.opened m year ∷ []))
    unfolding Opening.opened open_cases answered placed reported_with
    opened_keeps year = go (smallest (open_cases (looked_up holding m) year)) refl
      where
        go : (v : Verdict) → smallest (open_cases (looked_up holding m) year) ≡ v
            → Keeps (answered v (accepted Report.Nothing (Some holding.count) (holding.count + 1) (opened_area m year))) (rows ++ (Ledger.opened m year ∷ []))
        go (Err refusal) v = agreed
        go (Ok _) v =
            let h = ruled_out (open_cases (looked_up holding m) year) v in
            opened_agreed n holding rows reported agreed m year (leb-false most_areas holding.count (h 4))

  acted_keeps : (area : ℕ) (act : Act) → Keeps (acted own schedule6 (looked_up holding area) act) (entered own area act rows)
  unfolding entered
  acted_keeps area (Act.Open opening) = opened_keeps area opening
  acted_keeps area (Act.Add sub land forest year) = added_keeps area (new_sub sub land forest year)
  acted_keeps area (Act.Clear sub year) = cleared_keeps area sub year
  acted_keeps area (Act.Plant sub forest year) = planted_keeps area sub forest year
  acted_keeps area (Act.File last) = filed_keeps area last
  acted_keeps area Act.Withdraw = withdrawn_keeps area

  pub entry_keeps : (e : AreaAct) → Keeps (stepped own holding e) (entered own e.area e.act rows)
  unfolding applied
  entry_keeps e = go (is_table own) refl
    where
      Kept : Outcome → Type 0
      Kept outcome = Keeps outcome (entered own e.area e.act rows)

      go : (t : Bool) → is_table own ≡ t → Kept (stepped own holding e)
      go true table = subst Kept (step_is own holding e table) (acted_keeps e.area e.act)
      go false table = step_turned own holding e Kept table (λ refusal few. turned_keeps refusal (entered own e.area e.act rows))
