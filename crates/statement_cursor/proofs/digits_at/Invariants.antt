-- `statement_cursor::digits_at` meets its contract. The loop's invariant: the digits before i lead the field.
use Rattle.laws.proofs.{◌-◌, length}
use Rattle.statement_cursor.specs.{Leads}
use Rattle.statement_cursor.proofs.digits_at.Given as goal

abbrev pub invariant-loop-i : goal.invariant-loop-i
invariant-loop-i l = Leads l.s l.at l.end l.value l.i

abbrev pub decreases-loop-i : goal.decreases-loop-i
decreases-loop-i l = length l.s - l.i
