-- `statement_cursor::number` meets its contract, by where the digits stop and by the tests there.
use Rattle.laws.proofs.{arith}
use Rattle.statement_cursor.proofs.Numbers.{number_unended, number-taken, number-refused}
use Rattle.statement_cursor.proofs.number.Goals as goal

pub returns-then-s-stop : goal.returns-then-s-stop
returns-then-s-stop c = record { value = number_unended _ _ _ _ _ _ c.digits_at-digits.ensures.leads c.if-s-stop.true; value_le_most = omega arith }

pub returns-then-at-s : goal.returns-then-at-s
returns-then-at-s c =
    let stop = c in
    let a = stop.args in
    let taken = number-taken a.s.now a.at a.end a.most _ _ stop.digits_at-digits.ensures.leads stop.if-s-stop.false stop.digits_at-digits.ensures.stops c.if-at-s.true in
    record { value = taken.0; value_le_most = taken.1 }

pub returns : goal.returns
returns c =
    let stop = c in
    record {
      value = number-refused _ _ _ _ _ _ stop.digits_at-digits.ensures.leads stop.if-s-stop.false stop.digits_at-digits.ensures.stops c.if-at-s.false;
      value_le_most = omega arith;
    }
