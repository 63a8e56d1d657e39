-- `statement_write::put_years` meets its contract: its four fields, one after the other.
use Rattle.statement_format.specs.{joined, years_text}
use Rattle.statement_field.proofs.Puts.{put_then, put_last}
use Rattle.statement_write.proofs.put_years.Goals as goal

pub returns : goal.returns
unfolding years_text joined
returns c =
    let latest = c in
    let open_year = latest in
    let opening = open_year in
    let number = opening in
    put_then number.put_short-next.ensures
    (put_then opening.put_short-next-2.ensures (put_then open_year.put_short-next-3.ensures (put_last latest.put_short.ensures)))
