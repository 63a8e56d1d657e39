-- `statement_write::write` meets its contract: the statement is measured, and written where there is room.
use Rattle.laws.proofs.{arith}
use Rattle.statement_write.proofs.Writable.{refused, accepted}
use Rattle.statement_write.proofs.write.Goals as goal

pub returns-then-out-need : goal.returns-then-out-need
returns-then-out-need c =
    let measured = c.put_statement-need.ensures in
    let r = refused _ _ measured.wrote (omega (arith, measured.holding_len_bound)) _ c.if-out-need.true in
    record { value = r.0; out_after = r.1 }

pub returns : goal.returns
returns c =
    let measured = c.put_statement-need.ensures in
    let r = accepted _ _ measured.wrote (omega (arith, measured.holding_len_bound)) _ _ _ (omega arith) c.put_statement-count.ensures.wrote in
    record { value = r.0; out_after = r.1 }
