-- `sheet_read::put_joined` meets its contract. The loop's invariant: what is left of the row, put behind what was put, is the row.
use Rattle.laws.proofs.{ℕ, ◌+◌, ◌≤◌, ◌≡◌, max, List, length}
use Rattle.text.specs.{greatest}
use Rattle.sheet_read.specs.{JoinedRow, Joined}
use Rattle.sheet_read.proofs.Joining.{Left}
use Rattle.sheet_read.proofs.put_joined.Given as goal

abbrev pub invariant-loop-i : goal.invariant-loop-i
invariant-loop-i l = (length l.out ≡ length l.initial.out) × (l.fields ≤ l.i + 1) × (l.end ≤ greatest) × (l.i ≤ max l.start (length l.sheet))
    × ((o : List ℕ) (row : JoinedRow) → Left l.sheet l.reading l.fields l.i l.out l.end o row → Joined l.sheet l.start l.initial.out l.at o row)
