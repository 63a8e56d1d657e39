-- The sheet adds up, for every book: the run begins with no area, so the totals of the holding that it ends with are what its lines show, and these totals
-- are the foot.
use Rattle.laws.proofs.{ℕ, ◌+◌, ◌≡◌, sym, ap, subst, ◌∙◌, List, ◌++◌, arith}
use mathlib.Core.Path.{fun_ext}
use lib.IntN.{pos, ◌-ℤ◌}
use Rattle.laws.specs.{sum_by}
use Rattle.laws.proofs.Signed.{ℤ-same, one_side, diff_read}
use Rattle.ranges.specs.{last_area}
use Rattle.holding.specs.{Holding, empty_holding}
use Rattle.holding_look.specs.{balance_of, units_received, units_surrendered}
use Rattle.book_print.specs.{foot_text, end_text}
use Rattle.book_listing.specs.{lines_of, Run, start, run_from, printed_from, list_from}
use Rattle.book_listing.proofs.Folding.{listing_over, listing_lines}
use Rattle.book_room.proofs.Feet.{kept_foot}
use Rattle.book_room.proofs.Runs.{start-kept, run-kept}
use Rattle.book_foot.proofs.Carried.{over_all}
use Rattle.theorem_keeping.specs.{Kept}
use Rattle.theorem_foot.specs.{last_balance, sum_to, AddsUp, Footed}
use Rattle.theorem_foot.proofs.Totals.{balance_for, Shows, lines_show}
use Rattle.theorem_foot.proofs.Balances.{balances_summed, units-paid}
use Rattle.theorem_foot.proofs.Above.{lines_above}

-- the balances of what was reached from no area on
module _ (holding : Holding) (sheet : List (List ℕ)) (shows : Shows empty_holding holding sheet) where
  last_balance_lem : (n : ℕ) → balance_for n holding ≡ last_balance sheet n
  unfolding sum_by last_balance
  last_balance_lem n = shows.balance n

  last_balances : Kept holding → over_all balance_of holding ≡ sum_to last_area (last_balance sheet)
  last_balances kept = sym (balances_summed holding kept) ∙ ap (sum_to last_area) (fun_ext last_balance_lem)

difference : (r s b : ℕ) → r ≡ s + b → pos r -ℤ pos s ≡ pos b
difference r s b e = ℤ-same _ _ (omega (arith, diff_read (pos r) (pos s), one_side (pos r -ℤ pos s)))

module _ (lines : List (List ℕ)) where
  abbrev above : List ℕ
  above = printed_from start lines

  abbrev last : Run
  last = run_from start lines

  abbrev below : List ℕ
  below =
      foot_text (over_all units_received last.holding) (over_all units_surrendered last.holding) (over_all balance_of last.holding)
      ++ end_text last.accepted last.refused

  list_closed : list_from start lines ≡ above ++ below
  unfolding list_from
  list_closed =
      ap (λ (l : List ℕ). above ++ (l ++ end_text last.accepted last.refused)) (sym (kept_foot last.holding (run-kept lines start start-kept).holding))

  list_adds_up : AddsUp (list_from start lines)
  unfolding sum_by start
  list_adds_up =
      let shows = lines_show lines start start-kept in
      let kept = (run-kept lines start start-kept).holding in
      record {
        above = above;
        received = over_all units_received last.holding;
        surrendered = over_all units_surrendered last.holding;
        balance = over_all balance_of last.holding;
        accepted = last.accepted;
        refused = last.refused;
        closed = list_closed;
        whole = ap lines_of list_closed ∙ lines_above lines start below;
        received_is_shown = omega (arith, shows.received);
        surrendered-shown = omega (arith, shows.surrendered);
        balance-shown = last_balances last.holding (lines_of above) shows kept;
        paid = difference _ _ _ (units-paid last.holding kept);
      }

-- THE THEOREM: the foot of every book
pub foot_adds_up : (book : List ℕ) → Footed book
foot_adds_up book = record {
  oversized = λ over. sym (listing_over book over);
  adds_up = λ short. subst AddsUp (listing_lines book short) (list_adds_up (lines_of book));
}
