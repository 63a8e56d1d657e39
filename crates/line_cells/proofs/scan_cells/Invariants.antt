-- `line_cells::scan_cells` meets its contract. The loop's invariant: what was judged and kept so far, with the cells from here on, is what all of them give.
use Rattle.laws.proofs.{◌-◌, ◌≤◌, ◌≡◌, ◌||◌, length, drop, sets}
use Rattle.text.specs.{split}
use Rattle.text_value.specs.{malformed}
use Rattle.line_cells.specs.{some_cell, bad_cell, tenths_all}
use Rattle.line_cells.proofs.scan_cells.Given as goal

abbrev pub invariant-loop-end : goal.invariant-loop-end
invariant-loop-end l = (l.start ≤ length l.text) × (l.k ≤ l.start) × (length l.cells ≡ length l.initial.cells)
    × (l.malformed || some_cell malformed (split (drop l.start l.text)) ≡ some_cell malformed (split l.text))
    × (l.over || some_cell bad_cell (split (drop l.start l.text)) ≡ some_cell bad_cell (split l.text))
    × (sets l.cells l.k (tenths_all (split (drop l.start l.text))) ≡ sets l.initial.cells 0 (tenths_all (split l.text)))

abbrev pub decreases-loop-end : goal.decreases-loop-end
decreases-loop-end l = length l.text - l.start
