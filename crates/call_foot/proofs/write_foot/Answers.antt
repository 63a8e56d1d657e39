-- `call_foot::write_foot` meets its contract: the foot is measured, and written where there is room for it.
use Rattle.laws.proofs.{arith}
use Rattle.statement_write.proofs.Writable.{refused, accepted}
use Rattle.call_foot.proofs.write_foot.Goals as goal

pub returns-then-out-need : goal.returns-then-out-need
returns-then-out-need c =
    let put = c.put_foot-need.ensures in
    let all = refused _ _ put.wrote (omega (arith, put.few)) _ c.if-out-need.true in
    record { value = all.0; out_after = all.1 }

pub returns : goal.returns
returns c =
    let measured = c.put_foot-need.ensures in
    let all = accepted _ _ measured.wrote (omega (arith, measured.few)) _ _ _ c.if-out-need.false c.put_foot-count.ensures.wrote in
    record { value = all.0; out_after = all.1 }
