-- The table judged, the pass over the statement and the step on the area looked up give the verdict of the act, and the bytes that are written are the
-- statement after it.
use Rattle.std.specs.Prelude.{Ok}
use Rattle.laws.proofs.{ℕ, ◌-◌, ◌≤◌, ◌≡◌, refl, sym, ap, ◌∙◌, List, ◌++◌, arith, length, take, drop, length-drop, take_all}
use Rattle.refusals.specs.{Verdict, smaller}
use Rattle.refusals.proofs.Smaller.{smaller_clear}
use Rattle.schedules.specs.{schedule6}
use Rattle.table.specs.{judged}
use Rattle.line_entry.specs.{AreaAct}
use Rattle.holding.specs.{Holding, find_area}
use Rattle.holding_look.specs.{looked_up}
use Rattle.step_outcome.specs.{Outcome}
use Rattle.step.specs.{acted, applied}
use Rattle.statement.specs.{read_of}
use Rattle.statement_pass.specs.{Passed, passed_over}
use Rattle.book_print.specs.{report_text}
use Rattle.call_output.specs.{changed_bytes}
use Rattle.call_step.specs.{step_outcome, step_verdict, step_bytes}
use Rattle.call_step.proofs.Placed.{acted_places}
use Rattle.call_step.proofs.Bridge.{places_in, changed-statement}

module _ (own statement : List ℕ) (on : AreaAct) (passed : Passed) (outcome : Outcome) (stated table v : Verdict) (p : passed ≡ passed_over statement on.area)
    (o : outcome ≡ acted own schedule6 passed.looked on.act) (s : stated ≡ smaller passed.verdict outcome.verdict) (t : table ≡ judged own)
    (w : v ≡ smaller table stated) where
  abbrev carries : Holding
  carries = (read_of statement).holding

  outcome_is : outcome ≡ step_outcome own statement on
  unfolding step_outcome applied passed_over
  outcome_is = o ∙ ap (λ (x : Passed). acted own schedule6 x.looked on.act) p

  verdict_is : passed.verdict ≡ (read_of statement).verdict
  unfolding passed_over
  verdict_is = ap (λ (x : Passed). x.verdict) p

  pub step_weighed : v ≡ step_verdict own statement on
  unfolding step_verdict
  step_weighed =
      w ∙ ap (λ (x : Verdict). smaller x stated) t
      ∙ ap (smaller (judged own))
      (s ∙ ap (λ (x : Verdict). smaller x outcome.verdict) verdict_is
      ∙ ap (λ (x : Outcome). smaller (read_of statement).verdict x.verdict) outcome_is)

  module _ (e : v ≡ Ok tt) where
    both_clear : (passed.verdict ≡ Ok tt) × (outcome.verdict ≡ Ok tt)
    both_clear = smaller_clear passed.verdict outcome.verdict (sym s ∙ (smaller_clear table stated (sym w ∙ e)).1)

    is_read : (read_of statement).verdict ≡ Ok tt
    is_read = sym verdict_is ∙ both_clear.0

    -- the places of the area lie in the bytes, and in order
    pub step_places : (passed.body ≤ passed.from) × (passed.from ≤ length statement) × (passed.to ≤ length statement)
    unfolding passed_over
    step_places = rw p (places_in statement is_read on.area (find_area carries on.area) refl)

    written_as : changed_bytes outcome.count (take (passed.from - passed.body) (drop passed.body statement)) outcome.area
        (drop passed.to statement) outcome.report ≡ step_bytes own statement on
    unfolding step_bytes changed_bytes passed_over step_outcome applied
    written_as =
        rw (p, outcome_is)
        (sym
        (ap (λ (l : List ℕ). l ++ report_text (step_outcome own statement on).report)
        (changed-statement statement is_read on.area (step_outcome own statement on)
        (acted_places own schedule6 (looked_up carries on.area) on.act (sym (ap (λ (x : Outcome). x.verdict) outcome_is) ∙ both_clear.1)))))

    pub step_written : changed_bytes outcome.count (take (passed.from - passed.body) (drop passed.body statement)) outcome.area
        (take (length statement - passed.to) (drop passed.to statement)) outcome.report ≡ step_bytes own statement on
    step_written =
        ap (λ (l : List ℕ). changed_bytes outcome.count (take (passed.from - passed.body) (drop passed.body statement)) outcome.area l outcome.report)
        (take_all (length statement - passed.to) (drop passed.to statement) (omega (arith, length-drop passed.to statement)))
        ∙ written_as
