-- `call_output::put_table` meets its contract. The loop's invariant: storing what is left stores all.
use Rattle.laws.proofs.{◌∙◌, arith, length-set}
use Rattle.call_output.proofs.TableBytes.{bytes_stored, bytes_end}
use Rattle.call_output.proofs.put_table.Goals as goal

pub loop-i-preserved : goal.loop-i-preserved
loop-i-preserved c =
    let l = c.loop-i in
    (simp length-set l.invariant.0, bytes_stored c.args.numbers.now l.i l.out (omega arith) ∙ l.invariant.1)

pub returns : goal.returns
returns c = bytes_end c.args.numbers.now c.loop-i.i c.loop-i.out (omega arith) ∙ c.loop-i.invariant.1
