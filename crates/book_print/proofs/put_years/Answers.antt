-- `book_print::put_years` meets its contract: a letter and three fields, one after the other.
use Rattle.statement_format.specs.{joined}
use Rattle.statement_field.proofs.Puts.{put_then, put_last}
use Rattle.book_print.proofs.put_years.Goals as goal

pub returns : goal.returns
unfolding joined
returns c =
    let last = c in
    let first = last in
    let area = first in
    let letter = area in
    put_then letter.put_start-next.ensures
    (put_then area.put_short-next.ensures (put_then first.put_short-next-2.ensures (put_last last.put_short.ensures)))
