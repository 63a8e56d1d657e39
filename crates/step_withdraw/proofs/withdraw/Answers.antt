-- `step_withdraw::withdraw` meets its contract, by the verdict on the area that was looked up; a clear one says that no more was surrendered than
-- received.
use Rattle.std.specs.Prelude.{Ok}
use Rattle.laws.proofs.{◌≡◌, refl, sym, ◌∙◌, arith}
use Rattle.refusals.specs.{smallest}
use Rattle.refusals.proofs.Laws.{ruled_out}
use Rattle.holding_look.specs.{Looked}
use Rattle.statement_carried.proofs.Bounds.{Bounds, bounds}
use Rattle.step_outcome.specs.{area_cases}
use Rattle.step_outcome.proofs.Laws.{refused, taken, fields-kept}
use Rattle.step_withdraw.specs.{withdraw_cases, withdrawn_area, withdrawn}
use Rattle.step_withdraw.proofs.withdraw.Goals as goal

bounded : (looked : Looked) → smallest (withdraw_cases looked.number looked.found looked.area) ≡ Ok tt → Bounds looked.area
unfolding withdraw_cases area_cases
bounded looked e = let out = ruled_out _ e in bounds _ (fields-kept looked.found _ (out 1) (out 2))

pub overflow_sub-due : goal.overflow_sub-due
overflow_sub-due c = (bounded c.args.looked (sym c.verdict-v.ensures ∙ c.in-Ok.is)).surrendered

pub overflow_add-after : goal.overflow_add-after
overflow_add-after c = let b = bounded c.args.looked (sym c.verdict-v.ensures ∙ c.in-Ok.is) in omega (arith, b.surrendered)

pub returns-in-Err : goal.returns-in-Err
unfolding withdrawn
returns-in-Err c = refused _ _ c.verdict-v.ensures _ _ _ c.turned.ensures c.in-Err.is

pub returns-in-Ok : goal.returns-in-Ok
unfolding withdrawn withdrawn_area
returns-in-Ok c = taken _ _ c.verdict-v.ensures _ _ c.in-Ok.is refl
