-- A T line is accepted only while no area stands, and after an accepted act one stands: an opening adds one, and any other act found its own.
use Rattle.std.specs.Prelude.{Ok, Err, Some, None, Option}
use Rattle.laws.proofs.{ℕ, ◌+◌, ◌≤◌, true, ◌≡◌, refl, sym, List, arith, not-false, leb, leb-false}
use Rattle.laws.proofs.Elements.{clash}
use Rattle.refusals.specs.{Refusal, Verdict}
use Rattle.refusals.proofs.Laws.{clear_last, ruled_out}
use Rattle.schedules.specs.{schedule6}
use Rattle.line_entry.specs.{Act, AreaAct, Entry}
use Rattle.holding.specs.{Area, Holding, find_area}
use Rattle.holding_look.specs.{known, looked_up}
use Rattle.step_outcome.specs.{Report, accepted, answered, area_cases, placed_at, placed}
use Rattle.step_outcome.proofs.Laws.{answered_clear}
use Rattle.step_open.specs.{opened}
use Rattle.step_add.specs.{add_cases, added}
use Rattle.step_clear.specs.{clear_cases, cleared}
use Rattle.step_plant.specs.{plant_cases, planted}
use Rattle.step_file.specs.{file_cases, filed}
use Rattle.step_withdraw.specs.{withdraw_cases, withdrawn}
use Rattle.step.specs.{acted, applied}
use Rattle.table_grow.specs.{growable}
use Rattle.book_listing.specs.{entry_taken}
use Rattle.theorem_keeping.proofs.Areas.{area_number}
use Rattle.theorem_keeping.proofs.Register.{found_inside}

module _ (holding : Holding) where
  found_stands : (n : ℕ) (found : Option ℕ) (area : Area) → find_area holding n ≡ found → known found ≡ true → 1 ≤ (placed_at holding found holding.count area).count
  unfolding find_area
  found_stands n None area e k = clash (sym k)
  found_stands n (Some i) area e k = omega (arith, (found_inside area_number n i holding.count holding.areas e).0)

  change_stands : (n : ℕ) (v : Verdict) (report : Report) (area : Area) → (v ≡ Ok tt → known (find_area holding n) ≡ true)
      → (let outcome = answered v (accepted report (find_area holding n) holding.count area) in
      outcome.verdict ≡ Ok tt → 1 ≤ (placed holding outcome).count)
  unfolding answered placed
  change_stands n (Ok _) report area found e = found_stands n (find_area holding n) area refl (found refl)
  change_stands n (Err r) report area found e = let z : ◌≡◌ {A = ℕ} 0 1 = cc in absurd (omega arith)

  opening_stands : (v : Verdict) (area : Area)
      → (let outcome = answered v (accepted Report.Nothing (Some holding.count) (holding.count + 1) area) in
      outcome.verdict ≡ Ok tt → 1 ≤ (placed holding outcome).count)
  unfolding answered placed
  opening_stands (Ok _) area e = omega arith
  opening_stands (Err r) area e = let z : ◌≡◌ {A = ℕ} 0 1 = cc in absurd (omega arith)

  acted_stands : (own : List ℕ) (n : ℕ) (act : Act)
      → (let outcome = acted own schedule6 (looked_up holding n) act in outcome.verdict ≡ Ok tt → 1 ≤ (placed holding outcome).count)
  unfolding opened added add_cases cleared clear_cases planted plant_cases filed file_cases withdrawn withdraw_cases area_cases
  acted_stands own n (Act.Open opening) = opening_stands _ _
  acted_stands own n (Act.Add sub land forest year) = change_stands n _ _ _ (λ e. not-false _ (ruled_out _ e 4))
  acted_stands own n (Act.Clear sub year) = change_stands n _ _ _ (λ e. not-false _ (ruled_out _ e 3))
  acted_stands own n (Act.Plant sub forest year) = change_stands n _ _ _ (λ e. not-false _ (ruled_out _ e 4))
  acted_stands own n (Act.File last) = change_stands n _ _ _ (λ e. not-false _ (ruled_out _ e 3))
  acted_stands own n Act.Withdraw = change_stands n _ _ _ (λ e. not-false _ (ruled_out _ e 2))

  pub act_stands : (own : List ℕ) (on : AreaAct) → (applied own schedule6 holding on).verdict ≡ Ok tt
      → 1 ≤ (placed holding (applied own schedule6 holding on)).count
  unfolding applied
  act_stands own on = acted_stands own on.area on.act

  -- "33 T once an area stands"
  pub column_first : (own line : List ℕ) (column : ℕ) → (entry_taken own holding line (Entry.Column column)).verdict ≡ Ok tt → holding.count ≡ 0
  unfolding entry_taken growable
  column_first own line column e =
      let none = leb-false 1 holding.count (clear_last _ (leb 1 holding.count) Refusal.TableAfterArea (answered_clear _ _ e).0) in omega arith
