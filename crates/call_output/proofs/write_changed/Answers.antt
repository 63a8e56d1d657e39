-- `call_output::write_changed` meets its contract: what is written besides the bytes that came is measured where there might be no room for it, and all
-- of it is written where there is.
use Rattle.laws.proofs.{sym, ◌∙◌}
use Rattle.call_output.proofs.Changed.{unmeasured, fits, short}
use Rattle.call_output.proofs.write_changed.Goals as goal

pub returns-then-has_room : goal.returns-then-has_room
returns-then-has_room c =
    let all = unmeasured _ _ _ _ _ c.put_changed-length.ensures
    (sym c.has_room.ensures ∙ c.if-has_room.true) in
    record { value = all.0; out_after = all.1 }

pub returns-then-has_room-2 : goal.returns-then-has_room-2
returns-then-has_room-2 c =
    let room = c in
    let measured = room in
    let all = fits _ _ _ _ _ measured.put_changed-written.ensures _ _ _ c.put_changed-length-then-has_room-2.ensures
    (sym room.has_room-2.ensures ∙ room.if-has_room-2.true) in
    record { value = all.0; out_after = all.1 }

pub returns : goal.returns
returns c =
    let a = c.args in
    let all = short a.count a.before.now a.area a.behind.now a.report c.put_changed-written.ensures a.out.now
    (sym c.has_room-2.ensures ∙ c.if-has_room-2.false) in
    record { value = all.0; out_after = all.1 }
