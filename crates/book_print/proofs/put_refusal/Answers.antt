-- `book_print::put_refusal` meets its contract: its line is a letter and two numbers, of which the refusal's has at most two digits.
use Rattle.laws.proofs.{ap, arith}
use Rattle.statement_field.proofs.Puts.{put_as}
use Rattle.book_print.specs.{pair_text, refusal_text}
use Rattle.book_print.proofs.Lengths.{refusal-few}
use Rattle.statement_field.proofs.Puts.{put_few}
use Rattle.book_print.proofs.put_refusal.Goals as goal

pub returns : goal.returns
unfolding refusal_text
returns c =
    let a = c.args in
    put_few (refusal-few 19 a.line a.refusal (omega arith)) (put_as (ap (pair_text 88 a.line) c.from-number.ensures) c.put_pair.ensures)
