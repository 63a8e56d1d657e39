-- `line_column::read_column` meets its contract, by the verdict of the line's fields and the room for its cells: a line that is accepted has no more than 101, so that all were kept.
use Rattle.laws.proofs.{◌≤◌, ap, ◌∙◌, arith, length, sets, length-take}
use Rattle.laws.proofs.Stores.{copied}
use Rattle.text.specs.{split}
use Rattle.table.specs.{longest_column}
use Rattle.refusals.specs.{smallest}
use Rattle.line_column.specs.{column_rule}
use Rattle.refusals.proofs.Laws.{ruled_out}
use Rattle.line_column.proofs.Laws.{few-cells, kept-front, room-weighed, read-refused, own_clear, cells_fit, read_clear}
use Rattle.line_column.proofs.read_column.Goals as goal
use Rattle.line_column.proofs.read_column.Goals.{In-Ok}

-- where the verdict is clear, there are places for the cells, and room
fits : (c : In-Ok) → (c.judge-judged.result.count ≤ longest_column) × (c.judge-judged.result.count ≤ length c.args.cells.now)
fits c =
    let j = c.judge-judged.ensures.verdict_value in
    let fs = split c.args.line.now in
    let own = smallest (column_rule fs).cases in
    let reached = room-weighed own _ _ fs _ (length c.args.cells.now) j.0 j.2 c.weigh-verdict.ensures in
    let clear = c.in-Ok.is in
    let few = few-cells fs (ruled_out _ (own_clear own _ fs c.args.cells.now reached clear)) in
    let room = cells_fit own _ fs c.args.cells.now reached clear in
    (omega (arith, j.2, few), omega (arith, j.2, room))

pub slice_bounds-copy_from_slice-end : goal.slice_bounds-copy_from_slice-end
slice_bounds-copy_from_slice-end c =
    let n = c.judge-judged.result.count in
    omega (arith, length-take n c.args.cells.now, length-take n c.judge-judged.new.kept, fits (goal.at.slice_bounds-copy_from_slice-end c).In-Ok)

pub slice_bounds-copy_from_slice-end-in-Ok : goal.slice_bounds-copy_from_slice-end-in-Ok
slice_bounds-copy_from_slice-end-in-Ok c =
    let n = c.judge-judged.result.count in
    omega (arith, length-take n c.args.cells.now, length-take n c.judge-judged.new.kept, fits (goal.at.slice_bounds-copy_from_slice-end-in-Ok c).In-Ok)

pub slice_bounds-kept-end : goal.slice_bounds-kept-end
slice_bounds-kept-end c =
    let n = c.judge-judged.result.count in
    omega (arith, length-take n c.args.cells.now, length-take n c.judge-judged.new.kept, fits (goal.at.slice_bounds-kept-end c).In-Ok)

pub slice_bounds-copy_from_slice-end-in-Ok-2 : goal.slice_bounds-copy_from_slice-end-in-Ok-2
slice_bounds-copy_from_slice-end-in-Ok-2 c =
    let n = c.judge-judged.result.count in
    omega (arith, length-take n c.args.cells.now, length-take n c.judge-judged.new.kept, fits (goal.at.slice_bounds-copy_from_slice-end-in-Ok-2 c).In-Ok)

pub copy_from_slice-requires : goal.copy_from_slice-requires
copy_from_slice-requires c =
    let n = c.judge-judged.result.count in
    omega (arith, length-take n c.args.cells.now, length-take n c.judge-judged.new.kept, fits (goal.at.copy_from_slice-requires c).In-Ok)

pub returns-in-Err : goal.returns-in-Err
returns-in-Err c =
    let j = c.judge-judged.ensures.verdict_value in
    let read = read-refused _ _ _ _ (room-weighed _ _ _ _ _ _ j.0 j.2 c.weigh-verdict.ensures) _ c.in-Err.is in
    record { value = read.0; cells_after = read.1 }

pub returns-in-Ok : goal.returns-in-Ok
returns-in-Ok c =
    let j = c.judge-judged.ensures in
    let v = j.verdict_value in
    let out = c.args.cells.now in
    let fs = split c.args.line.now in
    let n = c.judge-judged.result.count in
    let bounds = fits (goal.at.returns-in-Ok c).In-Ok in
    let front = kept-front fs _ _ (omega (arith, bounds, v.2)) v.2 j.kept_after in
    let read =
    read_clear _ _ fs out (room-weighed _ _ _ _ _ _ v.0 v.2 c.weigh-verdict.ensures) c.in-Ok.is _ _ _ v.1 v.2
    (copied out _ _ 0 _ c.copy_from_slice.ensures.after (omega (arith, length-take n c.judge-judged.new.kept, bounds)) (omega (arith, bounds))
    ∙ ap (sets out 0) front)
    in
    record { value = read.0; cells_after = read.1 }
