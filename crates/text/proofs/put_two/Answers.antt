-- `text::put_two` meets its contract: one byte, and one behind it.
use Rattle.text.proofs.Writes.{wrote_then}
use Rattle.text.proofs.put_two.Goals as goal

pub returns : goal.returns
returns c = wrote_then c.put_byte-next.ensures c.put_byte.ensures
