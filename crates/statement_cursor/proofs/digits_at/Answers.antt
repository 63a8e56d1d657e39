-- `statement_cursor::digits_at` meets its contract. The loop's invariant: the digits before i lead the field.
use Rattle.laws.proofs.{get_or}
use Rattle.statement_cursor.proofs.Leading.{Digit, a_digit, leads_on, stops}
use Rattle.statement_cursor.proofs.digits_at.Goals as goal

pub returns-then-byte-end : goal.returns-then-byte-end
returns-then-byte-end c = record { leads = c.loop-i.invariant; stops = stops _ _ _ _ c.loop-i-test.true c.if-byte-end.true }

pub loop-i-preserved : goal.loop-i-preserved
loop-i-preserved c =
    let digit : Digit c.args.end c.loop-i.value (get_or c.args.s.now c.loop-i.i 0) = a_digit _ _ _ c.if-byte-end.false in
    leads_on _ _ _ _ c.loop-i-test.true _ digit c.loop-i.invariant
