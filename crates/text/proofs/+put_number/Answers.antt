-- `text::put_number` meets its contract: the digits of a number are up to four, or those of its ten-thousandth and four more. The number itself falls
-- at each call.
use Rattle.laws.proofs.{sym}
use Rattle.text.proofs.Digits.{digits_small, digits_two, digits_three, digits_four, digits_four_more}
use Rattle.text.proofs.Writes.{wrote_then, wrote_as}
use Rattle.text.proofs.+put_number.Goals as goal

pub returns-then-number-lt10 : goal.returns-then-number-lt10
returns-then-number-lt10 t c = wrote_as (sym (digits_small _ c.if-number-lt10.true)) c.put_byte.ensures

pub returns-then-number-lt100 : goal.returns-then-number-lt100
returns-then-number-lt100 t c = wrote_as (sym (digits_two _ c.if-number-lt10.false c.if-number-lt100.true)) c.put_two.ensures

pub returns-then-number-lt1000 : goal.returns-then-number-lt1000
returns-then-number-lt1000 t c =
    wrote_as (sym (digits_three _ c.if-number-lt100.false c.if-number-lt1000.true))
    (wrote_then c.put_byte-next.ensures c.put_two-then-number-lt1000.ensures)

pub returns-then-number-lt10000 : goal.returns-then-number-lt10000
returns-then-number-lt10000 t c =
    wrote_as (sym (digits_four _ c.if-number-lt1000.false c.if-number-lt10000.true))
    (wrote_then c.put_two-next.ensures c.put_two-then-number-lt10000.ensures)

pub returns : goal.returns
returns t c =
    wrote_as (sym (digits_four_more _ c.if-number-lt10000.false))
    (wrote_then (wrote_then c.put_number-next.ensures c.put_two-next-2.ensures) c.put_two-2.ensures)
