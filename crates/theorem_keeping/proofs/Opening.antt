-- An opening adds an area without sub-areas, under a number that no area bears.
use Rattle.std.specs.Prelude.{Some}
use Rattle.laws.proofs.{ℕ, true, ◌≡◌, refl, arith, not-false, leb-false}
use Rattle.laws.specs.{distinct}
use Rattle.refusals.specs.{smallest}
use Rattle.ranges.specs.{is_area, is_year}
use Rattle.holding.specs.{Holding, opened_area, find_area}
use Rattle.holding_look.specs.{looked_up}
use Rattle.step_outcome.specs.{accepted, placed, Report}
use Rattle.step_open.specs.{open_cases, opened}
use Rattle.theorem_keeping.specs.{Each}
use Rattle.theorem_keeping.proofs.Within.{year_within}
use Rattle.theorem_keeping.proofs.Register.{unknown, register_more}
use Rattle.theorem_keeping.proofs.Areas.{AreaKept, AreasKept}
use Rattle.refusals.proofs.Laws.{ruled_out}
use Rattle.theorem_keeping.proofs.Answers.{answer_has}

opened_area_lem : (number opening : ℕ) → is_area number ≡ true → is_year opening ≡ true → AreaKept (opened_area number opening)
unfolding Each distinct
opened_area_lem number opening n y = record {
  fields = record {
    number = n;
    years = record {
      opens = y;
      changed = refl;
      ends = omega (arith, year_within opening y);
      starts = omega arith;
      unfiled = λ e. refl;
      yearly = omega arith;
    };
    amounts = record { bounded = omega arith; earned = omega arith; owned = omega arith; settled = λ e. refl };
  };
  subs = record { room = omega arith; tidy = record { long = refl; unused = refl }; each = tt; apart = refl };
}

pub opened_keeps : (holding : Holding) (number opening : ℕ) → AreasKept holding → AreasKept (placed holding (opened (looked_up holding number) opening))
unfolding opened placed open_cases find_area
opened_keeps holding number opening kept =
    answer_has holding (accepted Report.Nothing (Some holding.count) _ (opened_area number opening)) AreasKept (smallest (open_cases (looked_up holding number) opening)) kept (λ e.
    let out = ruled_out (open_cases (looked_up holding number) opening) e in
    register_more kept (opened_area number opening) (unknown (find_area holding number) (out 3)) (leb-false _ _ (out 4))
    (opened_area_lem number opening (not-false (is_area number) (out 0)) (not-false (is_year opening) (out 1))))
