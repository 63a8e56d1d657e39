-- `call_output::put_table` meets its contract. The loop's invariant: storing what is left stores all.
use Rattle.laws.proofs.{◌*◌, ◌≡◌, length, drop, sets}
use Rattle.call_output.specs.{table_bytes}
use Rattle.call_output.proofs.put_table.Given as goal

abbrev pub invariant-loop-i : goal.invariant-loop-i
invariant-loop-i l = (length l.out ≡ length l.initial.out) × (sets l.out (2 * l.i) (table_bytes (drop l.i l.numbers)) ≡ sets l.initial.out 0 (table_bytes l.numbers))
