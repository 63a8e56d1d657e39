-- `book_print::put_loss` meets its contract, by whether there is a loss.
use Rattle.laws.proofs.{arith}
use Rattle.statement_field.proofs.Puts.{put_then, put_one, put_within}
use Rattle.book_print.proofs.Parts.{loss_none, loss_some}
use Rattle.book_print.proofs.put_loss.Goals as goal

pub returns-then-tonnes-eq0 : goal.returns-then-tonnes-eq0
returns-then-tonnes-eq0 c = loss_none _ c.if-tonnes-eq0.true (put_within (omega arith) c.put_field.ensures)

pub returns : goal.returns
returns c =
    let tonnes = c in
    let sign = tonnes in
    loss_some _ sign.if-tonnes-eq0.false (put_then (put_one sign.put_byte-next.ensures) tonnes.put_field-2.ensures)
