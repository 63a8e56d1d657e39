-- `sheet_judge::all_five` meets its contract. The loop's invariant: those left have five fields just when all have.
use Rattle.laws.proofs.{◌-◌, ◌≡◌, length}
use Rattle.laws.specs.{every}
use Rattle.sheet_judge.specs.{five_fields}
use Rattle.sheet_judge.proofs.Rows.{rows_at}
use Rattle.sheet_judge.proofs.all_five.Given as goal

abbrev pub invariant-loop-i : goal.invariant-loop-i
invariant-loop-i l = (length l.unkept ≡ 1) × (every five_fields (rows_at l.sheet l.i) ≡ every five_fields (rows_at l.sheet l.start))

abbrev pub decreases-loop-i : goal.decreases-loop-i
decreases-loop-i l = length l.sheet - l.i
