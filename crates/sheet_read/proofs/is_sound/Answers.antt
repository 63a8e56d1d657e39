-- `sheet_read::is_sound` meets its contract. The loop's invariant: the bytes from here on lead where all bytes do.
use Rattle.laws.proofs.{sym, ap, ◌∙◌}
use Rattle.sheet_read.specs.{may_end, sound}
use Rattle.sheet_read.proofs.Turns.{reading_on, reading_ends}
use Rattle.sheet_read.proofs.is_sound.Goals as goal

pub loop-byte-preserved : goal.loop-byte-preserved
loop-byte-preserved c = rw c.turn-reading.ensures (reading_on _ _ _ c.loop-byte-test.true ∙ c.loop-byte.invariant)

pub returns : goal.returns
unfolding sound
returns c = c.may_end.ensures ∙ ap may_end (sym (reading_ends _ _ _ c.loop-byte-test.false) ∙ c.loop-byte.invariant)
