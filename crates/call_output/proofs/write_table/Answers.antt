-- `call_output::write_table` meets its contract: two bytes a number have room, or the output is left.
use Rattle.call_output.proofs.TableBytes.{no_room, enough_room}
use Rattle.call_output.proofs.write_table.Goals as goal

pub returns-then-out-count : goal.returns-then-out-count
returns-then-out-count c =
    let a = c.args in
    let all = no_room a.numbers.now a.out.now c.if-out-count.true in
    record { value = all.0; out_after = all.1 }

pub returns : goal.returns
returns c =
    let a = c.args in
    let all = enough_room a.numbers.now a.out.now c.if-out-count.false _ c.put_table.ensures in
    record { value = all.0; out_after = all.1 }
