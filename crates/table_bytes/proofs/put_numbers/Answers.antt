-- `table_bytes::put_numbers` meets its contract. The loop's invariant: storing what is left stores all.
use Rattle.laws.proofs.{◌∙◌, arith, length-set}
use Rattle.table_bytes.proofs.Numbers.{number-stored, numbers_end}
use Rattle.table_bytes.proofs.put_numbers.Goals as goal

pub loop-i-preserved : goal.loop-i-preserved
loop-i-preserved c =
    let l = c.loop-i in (
      simp length-set l.invariant.0,
      number-stored c.args.bytes.now l.i l.out (omega arith) ∙ l.invariant.1,
    )

pub returns : goal.returns
returns c = numbers_end c.args.bytes.now c.loop-i.i c.loop-i.out (omega arith) ∙ c.loop-i.invariant.1
