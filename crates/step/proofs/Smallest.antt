-- The verdict of a step is the smaller of the table's and of its act's cases, and the numbers of these do not fall: so what refuses a step is the
-- smallest number that applies.
use Rattle.std.specs.Prelude.{Ok, Err}
use Rattle.laws.proofs.{ℕ, true, not, ◌≡◌, refl, sym, ap, subst, ◌∙◌, List, [], ◌∷◌, arith}
use Rattle.refusals.specs.{Refusal, Verdict, number_of, Case, ◌⇒◌, weigh_all, smallest, smaller}
use Rattle.refusals.proofs.Smallest.{Least, rises}
use Rattle.refusals.proofs.Smaller.{From, from_both, smaller_clear, least_from}
use Rattle.schedules.specs.{schedule6}
use Rattle.table.specs.{is_table, judged}
use Rattle.line_entry.specs.{Act, AreaAct}
use Rattle.holding.specs.{Holding}
use Rattle.holding_look.specs.{Looked, looked_up}
use Rattle.step_outcome.specs.{Outcome, answered, area_cases}
use Rattle.step_open.specs.{open_cases, opened}
use Rattle.step_add.specs.{add_cases, added}
use Rattle.step_clear.specs.{clear_cases, cleared}
use Rattle.step_plant.specs.{plant_cases, planted}
use Rattle.step_file.specs.{file_cases, filed}
use Rattle.step_withdraw.specs.{withdraw_cases, withdrawn}
use Rattle.step.specs.{act_cases, cases_of, acted, applied, stepped}

answer_verdict : (v : Verdict) (outcome : Outcome) → (v ≡ Ok tt → outcome.verdict ≡ Ok tt) → (answered v outcome).verdict ≡ v
unfolding answered
answer_verdict (Ok _) outcome e = e refl
answer_verdict (Err refusal) outcome e = refl

module _ (looked : Looked) where
  cases_rise : (act : Act) → rises 0 (act_cases looked act) ≡ true
  unfolding act_cases rises open_cases add_cases clear_cases plant_cases file_cases withdraw_cases area_cases
  cases_rise (Act.Open opening) = refl
  cases_rise (Act.Add sub land forest year) = refl
  cases_rise (Act.Clear sub year) = refl
  cases_rise (Act.Plant sub forest year) = refl
  cases_rise (Act.File last) = refl
  cases_rise Act.Withdraw = refl

  pub acted-verdict : (own default : List ℕ) (act : Act) → (acted own default looked act).verdict ≡ smallest (act_cases looked act)
  unfolding act_cases opened added cleared planted filed withdrawn
  acted-verdict own default (Act.Open opening) = answer_verdict _ _ (λ clear. refl)
  acted-verdict own default (Act.Add sub land forest year) = answer_verdict _ _ (λ clear. refl)
  acted-verdict own default (Act.Clear sub year) = answer_verdict _ _ (λ clear. refl)
  acted-verdict own default (Act.Plant sub forest year) = answer_verdict _ _ (λ clear. refl)
  acted-verdict own default (Act.File last) = answer_verdict _ _ (λ clear. refl)
  acted-verdict own default Act.Withdraw = answer_verdict _ _ (λ clear. refl)

module _ (own : List ℕ) (holding : Holding) (on : AreaAct) where
  abbrev act_part : List Case
  act_part = act_cases (looked_up holding on.area) on.act

  applied-verdict : (applied own schedule6 holding on).verdict ≡ smallest act_part
  unfolding applied
  applied-verdict = acted-verdict (looked_up holding on.area) own schedule6 on.act

  -- the verdict is the smaller of the table's and the act's
  pub verdict_is : (stepped own holding on).verdict ≡ smaller (judged own) (smallest act_part)
  unfolding stepped
  verdict_is =
      let both = smaller (judged own) (applied own schedule6 holding on).verdict in
      answer_verdict both (applied own schedule6 holding on) (λ clear. (smaller_clear (judged own) _ clear).1)
      ∙ ap (smaller (judged own)) applied-verdict

  -- "The smallest number that applies is given": no case of the table or of the act has a smaller one
  pub refused-smallest : (refusal : Refusal) → (stepped own holding on).verdict ≡ Err refusal → Least (number_of refusal) (cases_of own holding on)
  unfolding judged smallest weigh_all Least rises
  refused-smallest refusal e =
      let n = number_of refusal in
      let from = from_both n (judged own) (smallest act_part) (subst (From n) (sym e ∙ verdict_is) (omega arith)) in
      let table = least_from n (not (is_table own) ⇒ Refusal.TableColumn ∷ []) refl from.0 in
      (table.0, least_from n act_part (cases_rise (looked_up holding on.area) on.act) from.1)
