-- `book_print::put_pair` meets its contract: a letter and two fields, one after the other.
use Rattle.statement_format.specs.{joined}
use Rattle.statement_field.proofs.Puts.{put_then, put_last}
use Rattle.book_print.specs.{pair_text}
use Rattle.book_print.proofs.put_pair.Goals as goal

pub returns : goal.returns
unfolding pair_text joined
returns c =
    let second = c in
    let first = second in
    let letter = first in
    put_then letter.put_start-next.ensures (put_then first.put_field-next.ensures (put_last second.put_field.ensures))
