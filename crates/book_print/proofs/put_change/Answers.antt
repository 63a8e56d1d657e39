-- `book_print::put_change` meets its contract, by whether the change is a gain.
use Rattle.laws.proofs.{ap, sym, arith}
use Rattle.statement_field.proofs.Puts.{put_as, put_within}
use Rattle.book_print.specs.{change_text}
use Rattle.book_print.proofs.put_change.Goals as goal

pub returns-in-Gain : goal.returns-in-Gain
unfolding change_text
returns-in-Gain c =
    let put = c in
    put_as (ap change_text (sym put.in-Gain.is)) (put_within (omega arith) put.put_field.ensures)

pub returns-in-Loss : goal.returns-in-Loss
unfolding change_text
returns-in-Loss c =
    let put = c in
    put_as (ap change_text (sym put.in-Loss.is)) put.put_loss.ensures
