-- Every step keeps what a statement carries: a refused one leaves the holding, and an accepted one keeps it by the law of its letter. So every list
-- of entries does, and what is reached from the empty holding is kept.
use Rattle.laws.proofs.{ℕ, Bool, true, false, ◌≡◌, refl, subst, List, [], ◌∷◌}
use Rattle.laws.specs.{all_of, every, distinct}
use Rattle.schedules.specs.{schedule6}
use Rattle.table.specs.{is_table}
use Rattle.line_entry.specs.{Act, AreaAct}
use Rattle.holding.specs.{Holding, empty_holding}
use Rattle.holding_look.specs.{looked_up}
use Rattle.statement_carried.specs.{carried_within}
use Rattle.step_outcome.specs.{Outcome, placed}
use Rattle.step.specs.{acted, applied, stepped, holding_from}
use Rattle.step.proofs.Entered.{step_is, step_turned}
use Rattle.theorem_keeping.specs.{Each, Kept}
use Rattle.theorem_keeping.proofs.Areas.{AreasKept, kept-areas, areas-kept}
use Rattle.theorem_keeping.proofs.Opening.{opened_keeps}
use Rattle.theorem_keeping.proofs.Adding.{added_keeps}
use Rattle.theorem_keeping.proofs.Clearing.{cleared_keeps}
use Rattle.theorem_keeping.proofs.Planting.{planted_keeps}
use Rattle.theorem_keeping.proofs.Filing.{filed_keeps}
use Rattle.theorem_keeping.proofs.Withdrawing.{withdrawn_keeps}

module _ (own : List ℕ) (holding : Holding) where
  acted_keeps : (area : ℕ) (act : Act) → is_table own ≡ true → AreasKept holding
      → AreasKept (placed holding (acted own schedule6 (looked_up holding area) act))
  unfolding placed
  acted_keeps area (Act.Open opening) table kept = opened_keeps holding area opening kept
  acted_keeps area (Act.Add sub land forest year) table kept = added_keeps own table area sub land forest year holding kept
  acted_keeps area (Act.Clear sub year) table kept = cleared_keeps holding area sub year kept
  acted_keeps area (Act.Plant sub forest year) table kept = planted_keeps holding area sub forest year kept
  acted_keeps area (Act.File last) table kept = filed_keeps own table holding area last kept
  acted_keeps area Act.Withdraw table kept = withdrawn_keeps holding area kept

  pub step_keeps : (on : AreaAct) → Kept holding → Kept (placed holding (stepped own holding on))
  unfolding applied placed
  step_keeps on kept = go (is_table own) refl
    where
      Keeps : Outcome → Type 0
      Keeps outcome = Kept (placed holding outcome)

      go : (t : Bool) → is_table own ≡ t → Keeps (stepped own holding on)
      go true table = subst Keeps (step_is own holding on table) (areas-kept _ (acted_keeps on.area on.act table (kept-areas holding kept)))
      go false table = step_turned own holding on Keeps table (λ r few. kept)

pub list_keeps : (own : List ℕ) (holding : Holding) (es : List AreaAct) → Kept holding → Kept (holding_from own holding es)
unfolding holding_from
list_keeps own holding [] kept = kept
list_keeps own holding (e ∷ es) kept = list_keeps own (placed holding (stepped own holding e)) es (step_keeps own holding e kept)

pub empty_kept : Kept empty_holding
unfolding carried_within all_of every distinct Each
empty_kept = record { carries = refl; tidy = record { areas = record { long = refl; unused = refl }; subs = tt } }

-- "Each step gets the holding that the last one left": what any list of entries reaches, a statement carries
pub reached-kept : (own : List ℕ) (es : List AreaAct) → Kept (holding_from own empty_holding es)
reached-kept own es = list_keeps own empty_holding es empty_kept
