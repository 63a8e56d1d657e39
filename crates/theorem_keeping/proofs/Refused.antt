-- A refused step leaves the holding as it was: every step is an answer, and a refusal places nothing.
use Rattle.std.specs.Prelude.{Err}
use Rattle.laws.proofs.{Bool, true, false, ◌≡◌, refl, ap, subst, ◌∙◌, List, ℕ}
use Rattle.refusals.specs.{Refusal, Verdict}
use Rattle.schedules.specs.{schedule6}
use Rattle.table.specs.{is_table}
use Rattle.line_entry.specs.{Act, AreaAct}
use Rattle.holding.specs.{Holding}
use Rattle.holding_look.specs.{Looked, looked_up}
use Rattle.step_outcome.specs.{Outcome, placed}
use Rattle.step_open.specs.{opened}
use Rattle.step_add.specs.{added}
use Rattle.step_clear.specs.{cleared}
use Rattle.step_plant.specs.{planted}
use Rattle.step_file.specs.{filed}
use Rattle.step_withdraw.specs.{withdrawn}
use Rattle.step.specs.{acted, applied, stepped}
use Rattle.step.proofs.Entered.{step_is, step_turned}
use Rattle.theorem_keeping.proofs.Answers.{refusal-leaves}

module _ (own : List ℕ) (holding : Holding) where
  acted-leaves : (looked : Looked) (act : Act) (r : Refusal) → (acted own schedule6 looked act).verdict ≡ Err r
      → placed holding (acted own schedule6 looked act) ≡ holding
  unfolding opened added cleared planted filed withdrawn
  acted-leaves looked (Act.Open opening) r e = refusal-leaves holding _ _ r refl e
  acted-leaves looked (Act.Add sub land forest year) r e = refusal-leaves holding _ _ r refl e
  acted-leaves looked (Act.Clear sub year) r e = refusal-leaves holding _ _ r refl e
  acted-leaves looked (Act.Plant sub forest year) r e = refusal-leaves holding _ _ r refl e
  acted-leaves looked (Act.File last) r e = refusal-leaves holding _ _ r refl e
  acted-leaves looked Act.Withdraw r e = refusal-leaves holding _ _ r refl e

  -- "A refusal returns its number only."
  pub refused-leaves : (on : AreaAct) (r : Refusal) → (stepped own holding on).verdict ≡ Err r → placed holding (stepped own holding on) ≡ holding
  unfolding applied placed
  refused-leaves on r e = go (is_table own) refl
    where
      Left : Outcome → Type 0
      Left outcome = placed holding outcome ≡ holding

      go : (t : Bool) → is_table own ≡ t → Left (stepped own holding on)
      go true table =
          let same = step_is own holding on table in
          subst Left same (acted-leaves (looked_up holding on.area) on.act r (ap (λ (o : Outcome). o.verdict) same ∙ e))
      go false table = step_turned own holding on Left table (λ s few. refl)
