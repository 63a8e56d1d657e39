-- A planting gives bare land trees of its year, which becomes the latest year; the residue stays.
use Rattle.std.specs.Prelude.{Ok, Option}
use Rattle.laws.proofs.{ℕ, ◌≤◌, true, false, ◌≡◌, refl, arith, not-false}
use Rattle.refusals.specs.{smallest, Verdict}
use Rattle.forest.specs.{Forest}
use Rattle.ranges.specs.{is_bare, is_year}
use Rattle.holding.specs.{Sub, Area, Holding, find_sub}
use Rattle.holding_look.specs.{known, sub_at, with_sub, looked_up}
use Rattle.step_outcome.specs.{area_cases, placed}
use Rattle.step_plant.specs.{plant_cases, planted_sub, planted_area, planted}
use Rattle.theorem_keeping.proofs.Within.{year_within, planted_so, not_before}
use Rattle.theorem_keeping.proofs.Subs.{SubKept, residue_later}
use Rattle.theorem_keeping.proofs.Areas.{AreasKept}
use Rattle.refusals.proofs.Laws.{ruled_out}
use Rattle.theorem_keeping.proofs.Changes.{Changed, change_keeps}
use Rattle.theorem_keeping.proofs.SubChanges.{sub-change_keeps}

planted_sub_lem : (opening latest year : ℕ) (forest : Forest) (sub : Sub) → is_year year ≡ true → latest ≤ year → is_bare forest ≡ false
    → SubKept opening latest sub → SubKept opening year (planted_sub sub forest year)
unfolding planted_sub
planted_sub_lem opening latest year forest sub ranged grows trees k =
    let h = year_within year ranged in
    record {
      number = k.number;
      land = k.land;
      trees = planted_so forest year trees (omega (arith, h)) h.1;
      planted = omega arith;
      residue = residue_later opening latest year grows sub.residue k.residue;
    }

planted-changes : (number sub : ℕ) (forest : Forest) (year : ℕ) (found : Option ℕ) (area : Area) → smallest (plant_cases number sub forest year found area) ≡ Ok tt
    → Changed found area (planted_area area sub forest year)
unfolding plant_cases area_cases planted_area planted_sub with_sub
planted-changes number sub forest year found area e =
    let out = ruled_out (plant_cases number sub forest year found area) e in
    let stand = find_sub area sub in
    let in_range = not-false (is_year year) (out 2) in
    let latest = not_before year area.open_year area.latest (out 8) in
    record {
      stands = not-false (known found) (out 4);
      number = refl;
      keeps = λ k. sub-change_keeps area k sub (planted_sub (sub_at area stand) forest year) year (record {
        stands = not-false (known stand) (out 6);
        ranged = in_range;
        grows = latest.1;
        number = refl;
        keeps = planted_sub_lem area.opening area.latest year forest (sub_at area stand) in_range latest.1 (out 1);
      });
    }

pub planted_keeps : (holding : Holding) (number sub : ℕ) (forest : Forest) (year : ℕ) → AreasKept holding
    → AreasKept (placed holding (planted (looked_up holding number) sub forest year))
unfolding planted
planted_keeps holding number sub forest year kept = change_keeps holding kept number _ _ _ (planted-changes number sub forest year _ _)
