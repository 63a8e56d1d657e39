-- `text_field::scan` meets its contract. The line scan's invariant: what is noted so far, with the starts from here on, are all the starts, and so for the
-- count; the field scan's: the end of the field, seen from i, is where it was at the field's start.
use Rattle.laws.proofs.{◌+◌, ◌-◌, ◌≤◌, ◌≡◌, length, drop, replicate, sets}
use Rattle.text.specs.{comma, width_to, split}
use Rattle.text_field.specs.{starts_from}
use Rattle.text_field.proofs.scan.Given as goal

abbrev pub invariant-field : goal.invariant-field
invariant-field l = (l.start ≤ l.i) × (l.i ≤ length l.line) × (l.i + width_to comma (drop l.i l.line) ≡ l.start + width_to comma (drop l.start l.line))

abbrev pub decreases-field : goal.decreases-field
decreases-field l = length l.line - l.i

abbrev pub invariant-line : goal.invariant-line
invariant-line l = (l.start ≤ length l.line) × (l.count ≤ l.start) × (length l.starts ≡ 7) × (l.count + length (split (drop l.start l.line)) ≡ length (split l.line))
    × (sets l.starts l.count (starts_from l.start (split (drop l.start l.line))) ≡ sets (replicate 7 0) 0 (starts_from 0 (split l.line)))

abbrev pub decreases-line : goal.decreases-line
decreases-line l = length l.line - l.start
