-- `book_run::put_rows`: the rows of the lines from here on, put behind what was put, are those of all, and the numbers kept are those of the areas.
use Rattle.laws.proofs.{ℕ, ◌-◌, ◌≤◌, ◌≡◌, List, length, take}
use Rattle.text.specs.{greatest, Wrote}
use Rattle.holding.specs.{most_areas, numbers_in}
use Rattle.table.specs.{longest_table}
use Rattle.sheet_write.specs.{sheet_text}
use Rattle.book_export.specs.{exported_from}
use Rattle.book_listing.specs.{start}
use Rattle.book_run.specs.{lines_from}
use Rattle.book_run.proofs.Rows.{uncounted, holding_of}
use Rattle.book_run.proofs.put_rows.Given as goal

abbrev pub invariant-loop-i : goal.invariant-loop-i
invariant-loop-i l = record {
  many : length l.areas ≡ most_areas;
  numbers : l.numbers ≡ numbers_in l.areas;
  table : length l.table ≡ longest_table;
  fits : l.count ≤ longest_table;
  long : length l.out ≡ length l.initial.out;
  place : l.at ≤ greatest;
  puts : (o : List ℕ) (p : ℕ)
      → Wrote l.out l.at (sheet_text (exported_from (uncounted (take l.count l.table) (holding_of l.standing l.areas)) (lines_from l.book l.i))) o p
      → Wrote l.initial.out l.at-2 (sheet_text (exported_from start (lines_from l.book 0))) o p;
}

abbrev pub decreases-loop-i : goal.decreases-loop-i
decreases-loop-i l = length l.book - l.i
