-- `book_print::put_report` meets its contract, by what is reported.
use Rattle.laws.proofs.{arith, ap, sym}
use Rattle.statement_format.specs.{joined}
use Rattle.statement_field.proofs.Puts.{put_none, put_then, put_last, put_as, put_within}
use Rattle.book_print.specs.{report_text}
use Rattle.book_print.proofs.Parts.{return_is}
use Rattle.book_print.proofs.put_report.Goals as goal

pub returns-in-Nothing : goal.returns-in-Nothing
unfolding report_text
returns-in-Nothing c = put_as (ap report_text (sym c.in-Nothing.is)) (put_within (omega arith) (put_none _ _ (omega arith) (omega arith)))

pub returns-in-Return : goal.returns-in-Return
returns-in-Return c =
    let units = c in
    let change = units in
    let years = change in
    put_as (return_is _ _ years.in-Return.is)
    (put_then years.put_years-next.ensures (put_then change.put_change-next.ensures units.put_units.ensures))

pub returns-in-Withdrawal : goal.returns-in-Withdrawal
unfolding report_text joined
returns-in-Withdrawal c =
    let due = c in
    let area = due in
    let letter = area in
    put_as (ap report_text (sym letter.in-Withdrawal.is))
    (put_within (omega arith) (put_then letter.put_start-next.ensures (put_then area.put_short-next.ensures (put_last due.put_field.ensures))))
