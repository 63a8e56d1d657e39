-- `text::put_bytes` meets its contract: storing what is left of the bytes that have room stores all of them.
use Rattle.laws.proofs.{take}
use Rattle.laws.proofs.Stores.{Storing}
use Rattle.text.proofs.put_bytes.Given as goal

abbrev pub invariant-loop-i : goal.invariant-loop-i
invariant-loop-i l = Storing (take l.many l.bytes) l.initial.out l.at l.out l.i
