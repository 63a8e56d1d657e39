-- A withdrawal surrenders what is left, so that all that was received is surrendered.
use Rattle.std.specs.Prelude.{Ok, Option}
use Rattle.laws.proofs.{ℕ, ◌≤◌, ◌≡◌, refl, arith, not-false}
use Rattle.refusals.specs.{smallest, Verdict}
use Rattle.holding.specs.{Area, Holding}
use Rattle.holding_look.specs.{known, looked_up}
use Rattle.step_outcome.specs.{area_cases, placed}
use Rattle.step_withdraw.specs.{withdraw_cases, withdrawn_area, withdrawn}
use Rattle.theorem_keeping.proofs.Areas.{AreaKept, AreasKept}
use Rattle.refusals.proofs.Laws.{ruled_out}
use Rattle.theorem_keeping.proofs.Changes.{Changed, change_keeps}

withdrawn_area_lem : (area : Area) → AreaKept area → AreaKept (withdrawn_area area)
unfolding withdrawn_area
withdrawn_area_lem area k =
    let amounts = k.fields.amounts in
    let owned : area.surrendered ≤ area.received = amounts.owned in
    record {
      fields = record {
        number = k.fields.number;
        years = k.fields.years;
        amounts = record { bounded = amounts.bounded; earned = amounts.earned; owned = omega arith; settled = λ e. omega arith };
      };
      subs = k.subs;
    }

withdrawn-changes : (number : ℕ) (found : Option ℕ) (area : Area) → smallest (withdraw_cases number found area) ≡ Ok tt → Changed found area (withdrawn_area area)
unfolding withdraw_cases area_cases withdrawn_area
withdrawn-changes number found area e =
    let out = ruled_out (withdraw_cases number found area) e in
    record { stands = not-false (known found) (out 2); number = refl; keeps = withdrawn_area_lem area }

pub withdrawn_keeps : (holding : Holding) (number : ℕ) → AreasKept holding → AreasKept (placed holding (withdrawn (looked_up holding number)))
unfolding withdrawn
withdrawn_keeps holding number kept = change_keeps holding kept number _ _ _ (withdrawn-changes number _ _)
