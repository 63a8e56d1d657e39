-- `sheet_read::is_sound` meets its contract. The loop's invariant: the bytes from here on lead where all bytes do.
use Rattle.laws.proofs.{◌≡◌, drop}
use Rattle.sheet_read.specs.{Reading, reading_after}
use Rattle.sheet_read.proofs.is_sound.Given as goal

abbrev pub invariant-loop-byte : goal.invariant-loop-byte
invariant-loop-byte l = reading_after l.reading (drop l.byte-index l.sheet) ≡ reading_after Reading.RowStart l.sheet
