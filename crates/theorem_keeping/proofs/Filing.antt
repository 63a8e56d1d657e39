-- A return opens the year after its last one. The stock is the sub-areas' own; what is received is at most one return's limit more, and no more is due than
-- the balance.
use Rattle.std.specs.Prelude.{Ok, Option}
use Rattle.laws.proofs.{ℕ, ◌+◌, ◌*◌, ◌≤◌, true, false, ◌≡◌, refl, sym, ◌∙◌, List, arith, not-false}
use Rattle.laws.proofs.Elements.{clash}
use Rattle.refusals.specs.{smallest, Verdict}
use Rattle.units.specs.{Change}
use Rattle.ranges.specs.{is_year}
use Rattle.schedules.specs.{schedule6}
use Rattle.table.specs.{is_table}
use Rattle.holding.specs.{Area, Holding}
use Rattle.holding_look.specs.{known, balance_of, looked_up}
use Rattle.statement_carried.specs.{received_for_return}
use Rattle.step_outcome.specs.{area_cases, placed}
use Rattle.step_file.specs.{file_cases, received_of, due_of, change_of, filed_area, filed}
use Rattle.theorem_keeping.proofs.Within.{year_within, not_before}
use Rattle.theorem_keeping.proofs.Stocks.{size_of, stock_at_most, return_at_most}
use Rattle.theorem_keeping.proofs.Areas.{AreaKept, AreasKept}
use Rattle.refusals.proofs.Laws.{ruled_out}
use Rattle.theorem_keeping.proofs.Changes.{Changed, change_keeps}

received_at_most : (change : Change) → received_of change ≤ size_of change
received_at_most (Change.Gain t) = omega arith
received_at_most (Change.Loss t) = omega arith

due_at_most : (change : Change) (balance : ℕ) → due_of change balance ≤ balance
due_at_most (Change.Gain t) balance = omega arith
due_at_most (Change.Loss t) balance = omega arith

module _ (own : List ℕ) (table : is_table own ≡ true) (area : Area) (k : AreaKept area) where
  filed_area_lem : (last : ℕ) → is_year last ≡ true → area.open_year ≤ last → area.withdrawn ≡ false → AreaKept (filed_area own schedule6 area last)
  unfolding filed_area
  filed_area_lem last ranged begun stands =
      let years = k.fields.years in
      let amounts = k.fields.amounts in
      let change = change_of own schedule6 area last in
      let starts : area.opening ≤ area.open_year = years.starts in
      let yearly : area.returns + area.opening ≤ area.open_year = years.yearly in
      let earned : area.received ≤ received_for_return * area.returns = amounts.earned in
      let owned : area.surrendered ≤ area.received = amounts.owned in
      record {
        fields = record {
          number = k.fields.number;
          years = record {
            opens = years.opens;
            changed = years.changed;
            ends = omega (arith, year_within last ranged);
            starts = omega arith;
            unfiled = λ e. omega arith;
            yearly = omega arith;
          };
          amounts = record {
            bounded = stock_at_most own table area k (last + 1);
            earned = omega (arith, received_at_most change, return_at_most own table area k last);
            owned = omega (arith, due_at_most change (balance_of area));
            settled = λ w. clash (sym w ∙ stands);
          };
        };
        subs = k.subs;
      }

filed-changes : (own : List ℕ) → is_table own ≡ true → (number last : ℕ) (found : Option ℕ) (area : Area) → smallest (file_cases number last found area) ≡ Ok tt
    → Changed found area (filed_area own schedule6 area last)
unfolding file_cases area_cases filed_area
filed-changes own table number last found area e =
    let out = ruled_out (file_cases number last found area) e in
    let latest = not_before last area.open_year area.latest (out 5) in
    record {
      stands = not-false (known found) (out 3);
      number = refl;
      keeps = λ k. filed_area_lem own table area k last (not-false (is_year last) (out 1)) latest.0 (out 4);
    }

pub filed_keeps : (own : List ℕ) → is_table own ≡ true → (holding : Holding) (number last : ℕ) → AreasKept holding
    → AreasKept (placed holding (filed own schedule6 (looked_up holding number) last))
unfolding filed
filed_keeps own table holding number last kept = change_keeps holding kept number _ _ _ (filed-changes own table number last _ _)
