-- `sheet_write::put_doubled` meets its contract, by whether the byte is a quote.
use Rattle.text.proofs.Writes.{wrote_then, wrote_as}
use Rattle.sheet_write.proofs.Doubling.{doubled-quote, doubled_other}
use Rattle.sheet_write.proofs.put_doubled.Goals as goal

pub returns-then-byte-eq-QUOTE : goal.returns-then-byte-eq-QUOTE
returns-then-byte-eq-QUOTE c =
    let again = c in
    let first = again in
    wrote_as (doubled-quote _ first.if-byte-eq-QUOTE.true) (wrote_then first.put_byte-next.ensures again.put_byte.ensures)

pub returns : goal.returns
returns c = wrote_as (doubled_other _ c.if-byte-eq-QUOTE.false) c.put_byte-2.ensures
