-- `line_cells::scan_cells` meets its contract. The loop's invariant: what was judged and kept so far, with the cells from here on, is what all of them give.
use Rattle.laws.proofs.{◌≤◌, ◌∙◌, arith, length}
use Rattle.text.specs.{comma}
use Rattle.text.proofs.Widths.{end_inside}
use Rattle.text_value.specs.{malformed}
use Rattle.line_cells.specs.{bad_cell, cells_found}
use Rattle.line_cells.proofs.Laws.{judge_next, judge_last, keep-next, keep_last}
use Rattle.line_cells.proofs.scan_cells.Goals as goal
use Rattle.line_cells.proofs.scan_cells.Goals.{After-end_of-end}

-- the end of the cell lies in the line, and its start before it
ends : (c : After-end_of-end) → (c.loop-end.start ≤ c.end_of-end.result) × (c.end_of-end.result ≤ length c.args.text.now)
ends c =
    let inside = end_inside comma c.args.text.now c.loop-end.start c.loop-end.invariant.0 in
    (omega (arith, c.end_of-end.ensures), omega (arith, c.end_of-end.ensures))

pub slice_bounds-cell-end : goal.slice_bounds-cell-end
slice_bounds-cell-end c = (ends (goal.at.slice_bounds-cell-end c).After-end_of-end).1

pub loop-end-preserved : goal.loop-end-preserved
loop-end-preserved c =
    let inside = ends (goal.at.loop-end-preserved c).After-end_of-end in
    let l = c.loop-end in
    let e = c.end_of-end.ensures in
    let read = c.cell-cell.ensures in
    let more = c.if-text-end.false in (
      omega arith,
      omega (arith, inside),
      c.keep.auto.cells ∙ l.invariant.2,
      judge_next _ _ _ e l.invariant.0 _ read malformed l.malformed _ c.is_malformed-malformed.ensures more ∙ l.invariant.3,
      judge_next _ _ _ e l.invariant.0 _ read bad_cell l.over _ c.is_outside-over.ensures more ∙ l.invariant.4,
      keep-next _ _ _ e l.invariant.0 _ read _ _ _ _ c.keep.ensures c.value_u16.ensures more ∙ l.invariant.5,
    )

pub returns : goal.returns
unfolding cells_found
returns c =
    let inside = ends (goal.at.returns c).After-end_of-end in
    let l = c.loop-end in
    let e = c.end_of-end.ensures in
    let read = c.cell-cell.ensures in
    let last = c.if-text-end.true in
    let ill = judge_last _ _ _ e l.invariant.0 _ read malformed l.malformed _ c.is_malformed-malformed.ensures last inside.1 ∙ l.invariant.3 in
    let over = judge_last _ _ _ e l.invariant.0 _ read bad_cell l.over _ c.is_outside-over.ensures last inside.1 ∙ l.invariant.4 in
    record {
      value = λ i. record { malformed = ill i; over = over i };
      cells_after = keep_last _ _ _ e l.invariant.0 _ read _ _ _ _ c.keep.ensures c.value_u16.ensures last inside.1 ∙ l.invariant.5;
    }
