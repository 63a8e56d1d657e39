-- What a step reports is short: an area that is kept has a return for each of its years at most, each within its limit of tonnes received, and a
-- return's change is at most `most_change`.
use Rattle.std.specs.Prelude.{Ok, Err}
use Rattle.laws.proofs.{ℕ, ◌+◌, ◌-◌, ◌*◌, ◌≤◌, true, ◌≡◌, refl, List, arith, not-false, length}
use Rattle.book_room.specs.{return_width, withdrawal_width}
use Rattle.refusals.specs.{Verdict}
use Rattle.units.specs.{Change}
use Rattle.ranges.specs.{first_year, last_year, last_area, is_year}
use Rattle.schedules.specs.{schedule6}
use Rattle.table.specs.{is_table}
use Rattle.line_entry.specs.{Act, AreaAct}
use Rattle.holding.specs.{Area, Holding, find_area}
use Rattle.holding_look.specs.{known, area_at, balance_of, looked_up}
use Rattle.statement_carried.specs.{received_for_return}
use Rattle.step_outcome.specs.{Outcome, answered, area_cases}
use Rattle.step_open.specs.{opened}
use Rattle.step_add.specs.{added}
use Rattle.step_clear.specs.{cleared}
use Rattle.step_plant.specs.{planted}
use Rattle.step_file.specs.{file_cases, received_of, due_of, change_of, filed_area, return_of, filed}
use Rattle.step_withdraw.specs.{withdraw_cases, withdrawn}
use Rattle.step.specs.{acted, applied}
use Rattle.book_print.specs.{report_text}
use Rattle.theorem_keeping.proofs.Within.{within, year_within}
use Rattle.theorem_keeping.proofs.Stocks.{size_of, most_change, return_at_most}
use Rattle.theorem_keeping.proofs.Areas.{AreaKept, AreasKept}
use Rattle.refusals.proofs.Laws.{ruled_out}
use Rattle.theorem_keeping.proofs.Changes.{area-found}
use Rattle.book_room.proofs.Texts.{return_length, withdrawal_length}
use Rattle.book_room.proofs.Widths.{most_printed}

received-within : (change : Change) → received_of change ≤ size_of change
received-within (Change.Gain t) = omega arith
received-within (Change.Loss t) = omega arith

due_within : (change : Change) (balance : ℕ) → due_of change balance ≤ size_of change
due_within (Change.Gain t) balance = omega arith
due_within (Change.Loss t) balance = omega arith

-- a refusal reports nothing
answer_length : (m : ℕ) (v : Verdict) (outcome : Outcome) → (v ≡ Ok tt → length (report_text outcome.report) ≤ m)
    → length (report_text (answered v outcome).report) ≤ m
unfolding answered report_text
answer_length m (Err r) outcome f = omega arith
answer_length m (Ok _) outcome f = f refl

module _ (area : Area) (k : AreaKept area) where
  received_at_most : area.received ≤ received_for_return * (last_year + 1 - first_year)
  received_at_most =
      let years = k.fields.years in
      omega (arith, k.fields.amounts.earned, years.ends, years.yearly, year_within area.opening years.opens)

  returned-length : (own : List ℕ) → is_table own ≡ true → (last : ℕ) → is_year last ≡ true
      → length (report_text (return_of own schedule6 area last)) ≤ return_width
  unfolding return_of filed_area
  returned-length own table last y =
      let change = change_of own schedule6 area last in
      let size : size_of change ≤ most_change = return_at_most own table area k last in
      let received : received_of change ≤ size_of change = received-within change in
      return_length _
      (omega (arith, within 1 area.number last_area k.fields.number))
      (omega (arith, k.fields.years.ends))
      (omega (arith, year_within last y))
      (omega arith)
      (omega arith)
      (omega (arith, due_within change (balance_of area)))
      (omega (arith, received_at_most))

module _ (own : List ℕ) (table : is_table own ≡ true) (holding : Holding) (kept : AreasKept holding) where
  filed-length : (number last : ℕ) → length (report_text (filed own schedule6 (looked_up holding number) last).report) ≤ return_width
  unfolding filed file_cases area_cases
  filed-length number last =
      let found = find_area holding number in
      let area = area_at holding found in
      answer_length return_width _ _
      (λ e.
      let out = ruled_out (file_cases number last found area) e in
      returned-length area (area-found holding kept number (not-false (known found) (out 3))) own table last (not-false (is_year last) (out 1)))

  withdrawn-length : (number : ℕ) → length (report_text (withdrawn (looked_up holding number)).report) ≤ withdrawal_width
  unfolding withdrawn withdraw_cases area_cases
  withdrawn-length number =
      let found = find_area holding number in
      let area = area_at holding found in
      answer_length withdrawal_width _ _
      (λ e.
      let out = ruled_out (withdraw_cases number found area) e in
      let k = area-found holding kept number (not-false (known found) (out 2)) in
      withdrawal_length area.number (balance_of area) (omega (arith, within 1 area.number last_area k.fields.number))
      (omega (arith, received_at_most area k)))

  -- an act prints at most what its letter does
  acted-length : (area : ℕ) (act : Act) → length (report_text (acted own schedule6 (looked_up holding area) act).report) ≤ most_printed act
  unfolding opened added cleared planted report_text
  acted-length area (Act.Open opening) = answer_length 0 _ _ (λ e. omega arith)
  acted-length area (Act.Add sub land forest year) = answer_length 0 _ _ (λ e. omega arith)
  acted-length area (Act.Clear sub year) = answer_length 0 _ _ (λ e. omega arith)
  acted-length area (Act.Plant sub forest year) = answer_length 0 _ _ (λ e. omega arith)
  acted-length area (Act.File last) = filed-length area last
  acted-length area Act.Withdraw = withdrawn-length area

  pub applied-length : (on : AreaAct) → length (report_text (applied own schedule6 holding on).report) ≤ most_printed on.act
  unfolding applied
  applied-length on = acted-length on.area on.act
