-- Adding a sub-area gives the area one more, under a number that none of it bears, with trees planted by the opening and no residue; its stock is
-- within what one more sub-area allows.
use Rattle.std.specs.Prelude.{Ok, Option}
use Rattle.laws.proofs.{ℕ, ◌+◌, ◌*◌, ◌≤◌, true, false, ◌&&◌, ◌≡◌, refl, List, arith, not-false, leb-false, ltb-false}
use Rattle.laws.proofs.Lists.{and_right}
use Rattle.laws.proofs.Elements.{clash}
use Rattle.refusals.specs.{smallest, Verdict}
use Rattle.units.specs.{Tenths}
use Rattle.forest.specs.{Forest}
use Rattle.ranges.specs.{is_area, is_sub, is_land, is_planted}
use Rattle.schedules.specs.{schedule6}
use Rattle.table.specs.{is_table}
use Rattle.holding.specs.{Sub, Area, Holding, most_subs, no_residue, find_sub}
use Rattle.holding_look.specs.{known, looked_up}
use Rattle.statement_carried.specs.{stock_for_sub}
use Rattle.step_outcome.specs.{area_cases, placed}
use Rattle.stocks.specs.{sub_stock}
use Rattle.step_add.specs.{new_sub, add_cases, added_area, added}
use Rattle.theorem_keeping.proofs.Within.{land_within}
use Rattle.theorem_keeping.proofs.Register.{unknown, register_more}
use Rattle.theorem_keeping.proofs.Subs.{ResidueKept, SubKept}
use Rattle.theorem_keeping.proofs.Stocks.{sub_at_most}
use Rattle.theorem_keeping.proofs.Areas.{AreaKept, AreasKept}
use Rattle.refusals.proofs.Laws.{ruled_out}
use Rattle.theorem_keeping.proofs.Changes.{Changed, change_keeps}

no_residue_lem : (opening latest : ℕ) → ResidueKept opening latest no_residue
no_residue_lem opening latest = record { none = λ bare. (refl, refl); left = λ trees. clash trees }

module _ (own : List ℕ) (table : is_table own ≡ true) where
  added_area_lem : (area : Area) (sub : Sub) → known (find_sub area sub.number) ≡ false → area.count + 1 ≤ most_subs → SubKept area.opening area.latest sub
      → AreaKept area → AreaKept (added_area own schedule6 area sub)
  unfolding added_area find_sub
  added_area_lem area sub new room good k =
      let amounts = k.fields.amounts in
      let before : area.stock.0 ≤ stock_for_sub * area.count = amounts.bounded in
      let land = (land_within sub.tenths good.land).1 in
      let more : (sub_stock own schedule6 sub area.opening).0 ≤ stock_for_sub = sub_at_most own table sub area.opening land in
      record {
        fields = record {
          number = k.fields.number;
          years = k.fields.years;
          amounts = record { bounded = omega arith; earned = amounts.earned; owned = amounts.owned; settled = amounts.settled };
        };
        subs = register_more k.subs sub (unknown (find_sub area sub.number) new) (omega arith) good;
      }

  module _ (number sub : ℕ) (land : Tenths) (forest : Forest) (planted : ℕ) where
    added-changes : (found : Option ℕ) (area : Area) → smallest (add_cases number (new_sub sub land forest planted) found area) ≡ Ok tt
        → Changed found area (added_area own schedule6 area (new_sub sub land forest planted))
    unfolding add_cases area_cases added_area
    added-changes found area e =
        let out = ruled_out (add_cases number (new_sub sub land forest planted) found area) e in
        let room : area.count + 1 ≤ most_subs = omega (arith, leb-false most_subs area.count (out 7)) in
        let by-opening : planted ≤ area.opening = ltb-false area.opening planted (out 9) in
        let good : SubKept area.opening area.latest (new_sub sub land forest planted) = record {
          number = and_right (is_area number) (is_sub sub) (not-false (is_area number && is_sub sub) (out 0));
          land = not-false (is_land land) (out 1);
          trees = not-false (is_planted forest planted) (out 2);
          planted = omega arith;
          residue = no_residue_lem area.opening area.latest;
        } in
        record {
          stands = not-false (known found) (out 4);
          number = refl;
          keeps = added_area_lem area (new_sub sub land forest planted) (out 6) room good;
        }

    pub added_keeps : (holding : Holding) → AreasKept holding → AreasKept (placed holding (added own schedule6 (looked_up holding number) (new_sub sub land forest planted)))
    unfolding added
    added_keeps holding kept = change_keeps holding kept number _ _ _ (added-changes _ _)
