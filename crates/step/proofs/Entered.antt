-- A step entered: what was called is what the step is made of; and under a list that is a table it is the act, under any other it is turned back.
use Rattle.std.specs.Prelude.{Ok, Err}
use Rattle.laws.proofs.{ℕ, ◌≤◌, Bool, true, false, cond, ◌≡◌, refl, sym, ap, subst, ◌∙◌, List, arith, leb, leb-false}
use Rattle.refusals.specs.{Refusal, Verdict, number_of, weighed, smaller}
use Rattle.schedules.specs.{schedule6}
use Rattle.table.specs.{is_table, judged}
use Rattle.table.proofs.Judged.{judged_by}
use Rattle.line_entry.specs.{Act, AreaAct}
use Rattle.holding.specs.{Holding}
use Rattle.holding_look.specs.{Looked, looked_up}
use Rattle.step_outcome.specs.{Outcome, turned_back, answered}
use Rattle.step_outcome.proofs.Laws.{refused, taken}
use Rattle.step_open.specs.{opened}
use Rattle.step_add.specs.{added}
use Rattle.step_clear.specs.{cleared}
use Rattle.step_plant.specs.{planted}
use Rattle.step_file.specs.{filed}
use Rattle.step_withdraw.specs.{withdrawn}
use Rattle.step.specs.{acted, applied, stepped}

module _ (own default : List ℕ) (holding : Holding) (on : AreaAct) (looked : Looked) (outcome : Outcome) (table v : Verdict) (d : default ≡ schedule6)
    (l : looked ≡ looked_up holding on.area) (o : outcome ≡ acted own default looked on.act) (t : table ≡ judged own)
    (w : v ≡ smaller table outcome.verdict) where
  outcome_is : outcome ≡ applied own schedule6 holding on
  unfolding applied
  outcome_is = rw (o, d, l)

  verdict_is : v ≡ smaller (judged own) (applied own schedule6 holding on).verdict
  verdict_is = w ∙ ap (λ (x : Verdict). smaller x outcome.verdict) t ∙ ap (λ (x : Outcome). smaller (judged own) x.verdict) outcome_is

  pub entered-refused : (refusal : Refusal) (given : Outcome) → given ≡ turned_back refusal → v ≡ Err refusal → given ≡ stepped own holding on
  unfolding stepped
  entered-refused refusal given g e = refused _ v verdict_is refusal given _ g e

  pub entered-taken : v ≡ Ok tt → outcome ≡ stepped own holding on
  unfolding stepped
  entered-taken e = taken _ v verdict_is outcome _ e outcome_is

-- an outcome that its verdict was weighed into stays as it is
answered_again : (v : Verdict) (outcome : Outcome) → outcome.verdict ≡ Ok tt → answered (answered v outcome).verdict (answered v outcome) ≡ answered v outcome
unfolding answered
answered_again (Ok _) outcome e = rw e
answered_again (Err r) outcome e = refl

acted_again : (own default : List ℕ) (looked : Looked) (act : Act) → let outcome = acted own default looked act in answered outcome.verdict outcome ≡ outcome
unfolding opened added cleared planted filed withdrawn
acted_again own default looked (Act.Open opening) = answered_again _ _ refl
acted_again own default looked (Act.Add sub land forest year) = answered_again _ _ refl
acted_again own default looked (Act.Clear sub year) = answered_again _ _ refl
acted_again own default looked (Act.Plant sub forest year) = answered_again _ _ refl
acted_again own default looked (Act.File last) = answered_again _ _ refl
acted_again own default looked Act.Withdraw = answered_again _ _ refl

module _ (own : List ℕ) (holding : Holding) (on : AreaAct) where
  -- under a table a step is the act
  pub step_is : is_table own ≡ true → applied own schedule6 holding on ≡ stepped own holding on
  unfolding stepped weighed applied
  step_is e =
      let outcome = applied own schedule6 holding on in
      sym (acted_again own schedule6 (looked_up holding on.area) on.act)
      ∙ ap (λ (x : Verdict). answered (smaller x outcome.verdict) outcome) (sym (judged_by own true e))

  -- under any other list it is turned back, by 6 or a smaller number
  pub step_turned : (P : Outcome → Type 0) → is_table own ≡ false → ((r : Refusal) → number_of r ≤ 6 → P (turned_back r)) → P (stepped own holding on)
  unfolding stepped weighed answered
  step_turned P e turned =
      let outcome = applied own schedule6 holding on in
      subst (λ (x : Verdict). P (answered (smaller x outcome.verdict) outcome)) (sym (judged_by own false e)) (by_verdict outcome.verdict outcome)
    where
      of_two : (b : Bool) (r : Refusal) (outcome : Outcome) → leb 6 (number_of r) ≡ b
          → P (answered (cond b (Err Refusal.TableColumn) (Err r)) outcome)
      of_two true r outcome h = turned Refusal.TableColumn (omega arith)
      of_two false r outcome h = turned r (omega (arith, leb-false 6 (number_of r) h))

      by_verdict : (v : Verdict) (outcome : Outcome) → P (answered (smaller (Err Refusal.TableColumn) v) outcome)
      by_verdict (Ok _) outcome = turned Refusal.TableColumn (omega arith)
      by_verdict (Err r) outcome = of_two (leb 6 (number_of r)) r outcome refl
