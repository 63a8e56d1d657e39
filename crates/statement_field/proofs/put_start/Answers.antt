-- `statement_field::put_start` meets its contract: a byte, and a byte.
use Rattle.statement_format.specs.{start_text}
use Rattle.statement_field.proofs.Puts.{put_then, put_one}
use Rattle.statement_field.proofs.put_start.Goals as goal

pub returns : goal.returns
unfolding start_text
returns c =
    let comma = c in
    let letter = comma in
    put_then (put_one letter.put_byte-next.ensures) (put_one comma.put_byte.ensures)
