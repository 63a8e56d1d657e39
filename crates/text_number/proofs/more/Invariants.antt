-- `text_number::more` meets its contract. The loop's invariant: the bytes that are left make of n what all of them make of the number.
use Rattle.laws.proofs.{◌≡◌, drop}
use Rattle.text_number.specs.{more}
use Rattle.text_number.proofs.more.Given as goal

abbrev pub invariant-loop-byte : goal.invariant-loop-byte
invariant-loop-byte l = more l.n (drop l.byte-index l.bytes) ≡ more l.initial.n l.bytes
