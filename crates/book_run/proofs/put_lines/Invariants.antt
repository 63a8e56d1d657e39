-- `book_run::put_lines`: what the lines from here on print, put behind what was put, is what all print, their run is the run of all, they leave what all
-- leave, and the numbers kept are those of the areas.
use Rattle.laws.proofs.{ℕ, ◌+◌, ◌-◌, ◌*◌, ◌≤◌, ◌≡◌, List, length, take, drop}
use Rattle.text.specs.{greatest, Wrote}
use Rattle.holding.specs.{most_areas, numbers_in}
use Rattle.table.specs.{longest_table}
use Rattle.book_print.specs.{report_width}
use Rattle.book_listing.specs.{run_from, printed_from}
use Rattle.book_reached.proofs.Bounds.{Bounds}
use Rattle.book_run.specs.{lines_from}
use Rattle.book_run.proofs.Runs.{carried}
use Rattle.book_run.proofs.put_lines.Given as goal

abbrev pub invariant-loop-i : goal.invariant-loop-i
invariant-loop-i l = record {
  bounds : Bounds (length l.book) l.i l.count l.accepted l.refused;
  table : length l.table ≡ longest_table;
  areas : length l.holding.areas ≡ most_areas;
  long : length l.out ≡ length l.initial.out;
  prints : (o : List ℕ) (p : ℕ)
      → Wrote l.out l.at (printed_from (carried l.table l.count l.holding l.accepted l.refused) (take l.left (lines_from l.book l.i))) o p
      → Wrote l.initial.out l.at-2 (printed_from (carried l.initial.table l.initial.count l.initial.holding l.initial.accepted l.initial.refused) (take l.most (lines_from l.book l.next))) o p;
  runs : run_from (carried l.table l.count l.holding l.accepted l.refused) (take l.left (lines_from l.book l.i))
      ≡ run_from (carried l.initial.table l.initial.count l.initial.holding l.initial.accepted l.initial.refused) (take l.most (lines_from l.book l.next));
  leaves : drop l.left (lines_from l.book l.i) ≡ drop l.most (lines_from l.book l.next);
  numbers : l.numbers ≡ numbers_in l.holding.areas;
  place : l.at ≤ greatest;
  short : l.at + l.left * report_width ≤ l.at-2 + l.most * report_width;
  on : l.next + l.most ≤ l.i + l.left;
}

abbrev pub decreases-loop-i : goal.decreases-loop-i
decreases-loop-i l = length l.book - l.i
