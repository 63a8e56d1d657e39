-- `call_output::put_changed` meets its contract: the parts are put one after the other.
use Rattle.laws.proofs.{arith}
use Rattle.statement_format.specs.{joined}
use Rattle.statement_field.proofs.Puts.{put_then, put_last, put_within, put_whole}
use Rattle.call_output.specs.{changed_text, changed_bytes}
use Rattle.call_output.proofs.put_changed.Goals as goal

pub returns : goal.returns
unfolding changed_bytes changed_text joined
returns c =
    let report = c in
    let behind = report in
    let area = behind in
    let before = area in
    let count = before in
    let letter = count in
    put_within (omega arith)
    (put_then
    (put_then letter.put_start-next.ensures
    (put_then count.put_field-next.ensures
    (put_then (put_whole before.put_bytes-next.ensures) (put_then area.put_area-next.ensures (put_last (put_whole behind.put_bytes-next-2.ensures))))))
    report.put_report.ensures)
