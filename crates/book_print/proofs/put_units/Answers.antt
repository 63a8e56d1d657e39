-- `book_print::put_units` meets its contract: three fields, one after the other.
use Rattle.statement_format.specs.{joined}
use Rattle.statement_field.proofs.Puts.{put_then, put_last}
use Rattle.book_print.proofs.put_units.Goals as goal

pub returns : goal.returns
unfolding joined
returns c =
    let balance = c in
    let due = balance in
    let received = due in
    put_then received.put_field-next.ensures (put_then due.put_field-next-2.ensures (put_last balance.put_field.ensures))
