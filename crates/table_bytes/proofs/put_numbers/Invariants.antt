-- `table_bytes::put_numbers` meets its contract. The loop's invariant: storing what is left stores all.
use Rattle.laws.proofs.{◌*◌, ◌≡◌, length, drop, sets}
use Rattle.table_bytes.specs.{numbers_of}
use Rattle.table_bytes.proofs.put_numbers.Given as goal

abbrev pub invariant-loop-i : goal.invariant-loop-i
invariant-loop-i l = (length l.out ≡ length l.initial.out) × (sets l.out l.i (numbers_of (drop (2 * l.i) l.bytes)) ≡ sets l.initial.out 0 (numbers_of l.bytes))
