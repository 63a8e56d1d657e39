-- `book_print::put_foot` meets its contract: a letter and three fields, one after the other.
use Rattle.statement_format.specs.{joined}
use Rattle.statement_field.proofs.Puts.{put_then, put_last}
use Rattle.book_print.specs.{foot_text}
use Rattle.book_print.proofs.put_foot.Goals as goal

pub returns : goal.returns
unfolding foot_text joined
returns c =
    let balance = c in
    let surrendered = balance in
    let received = surrendered in
    let letter = received in
    put_then letter.put_start-next.ensures
    (put_then received.put_field-next.ensures (put_then surrendered.put_field-next-2.ensures (put_last balance.put_field.ensures)))
