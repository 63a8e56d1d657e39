-- A clearing leaves bare land and a residue of its year. The trees were planted from 1900 on and the year is at most 2199, so they are at most 299 years old.
use Rattle.std.specs.Prelude.{Ok, Option}
use Rattle.laws.proofs.{ℕ, ◌≤◌, true, false, ◌≡◌, refl, sym, ◌∙◌, arith, not-false}
use Rattle.laws.proofs.Elements.{clash}
use Rattle.refusals.specs.{smallest, Verdict}
use Rattle.ranges.specs.{is_bare, is_year}
use Rattle.holding.specs.{Sub, Area, Holding, find_sub}
use Rattle.holding_look.specs.{known, sub_at, with_sub, looked_up}
use Rattle.step_outcome.specs.{area_cases, placed}
use Rattle.step_clear.specs.{clear_cases, cleared_sub, cleared_area, cleared}
use Rattle.theorem_keeping.proofs.Within.{year_within, planted-within, not_before}
use Rattle.theorem_keeping.proofs.Subs.{SubKept}
use Rattle.theorem_keeping.proofs.Areas.{AreasKept}
use Rattle.refusals.proofs.Laws.{ruled_out}
use Rattle.theorem_keeping.proofs.Changes.{Changed, change_keeps}
use Rattle.theorem_keeping.proofs.SubChanges.{sub-change_keeps}

cleared_sub_lem : (opening latest year : ℕ) (sub : Sub) → is_year year ≡ true → opening ≤ year → is_bare sub.forest ≡ false
    → SubKept opening latest sub → SubKept opening year (cleared_sub sub year)
unfolding cleared_sub
cleared_sub_lem opening latest year sub ranged begun trees k =
    let h = planted-within sub.forest sub.planted k.trees trees in
    record {
      number = k.number;
      land = k.land;
      trees = refl;
      planted = omega arith;
      residue = record {
        none = λ bare. clash (sym bare ∙ trees);
        left = λ bare. (begun, omega arith, omega (arith, h, year_within year ranged));
      };
    }

cleared-changes : (number sub year : ℕ) (found : Option ℕ) (area : Area) → smallest (clear_cases number sub year found area) ≡ Ok tt
    → Changed found area (cleared_area area sub year)
unfolding clear_cases area_cases cleared_area cleared_sub with_sub
cleared-changes number sub year found area e =
    let out = ruled_out (clear_cases number sub year found area) e in
    let stand = find_sub area sub in
    let in_range = not-false (is_year year) (out 1) in
    let latest = not_before year area.open_year area.latest (out 7) in
    record {
      stands = not-false (known found) (out 3);
      number = refl;
      keeps = λ k. sub-change_keeps area k sub (cleared_sub (sub_at area stand) year) year (record {
        stands = not-false (known stand) (out 5);
        ranged = in_range;
        grows = latest.1;
        number = refl;
        keeps = cleared_sub_lem area.opening area.latest year (sub_at area stand) in_range (omega (arith, k.fields.years.starts, latest.0)) (out 6);
      });
    }

pub cleared_keeps : (holding : Holding) (number sub year : ℕ) → AreasKept holding → AreasKept (placed holding (cleared (looked_up holding number) sub year))
unfolding cleared
cleared_keeps holding number sub year kept = change_keeps holding kept number _ _ _ (cleared-changes number sub year _ _)
