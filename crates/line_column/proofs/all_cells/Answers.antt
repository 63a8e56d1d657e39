-- `line_column::all_cells` meets its contract: the fields from the fourth one's start on are the cells, where there is a fourth.
use Rattle.laws.proofs.{◌-◌, ap, ◌∙◌, arith, lit<, length, get_or, drop, length-drop, take_all, sets}
use Rattle.text.specs.{split}
use Rattle.text_field.proofs.Laws.{count-found, start-found}
use Rattle.line_cells.specs.{tenths_all, cells_found}
use Rattle.line_column.proofs.Laws.{none_found, none_kept}
use Rattle.line_column.proofs.all_cells.Goals as goal

pub returns-then-count-le-FIRST_CELL : goal.returns-then-count-le-FIRST_CELL
returns-then-count-le-FIRST_CELL c =
    let few = count-found c.args.line.now c.args.places c.requires in
    record { value = none_found (split c.args.line.now) (omega arith); cells_after = none_kept (split c.args.line.now) (omega arith) _ }

-- the fourth field starts in the line
pub slice_bounds-scan_cells-count : goal.slice_bounds-scan_cells-count
slice_bounds-scan_cells-count c =
    let e = count-found c.args.line.now c.args.places c.requires in
    (start-found c.args.line.now c.args.places c.requires 3 (lit< tt) (omega arith)).0

pub slice_bounds-scan_cells-start : goal.slice_bounds-scan_cells-start
slice_bounds-scan_cells-start c =
    let e = count-found c.args.line.now c.args.places c.requires in
    (start-found c.args.line.now c.args.places c.requires 3 (lit< tt) (omega arith)).0

pub returns : goal.returns
returns c =
    let line = c.args.line.now in
    let e = count-found line c.args.places c.requires in
    let found = start-found line c.args.places c.requires 3 (lit< tt) (omega arith) in
    let first = get_or c.args.places.starts 3 0 in
    let rest = ap split (take_all (length line - first) (drop first line) (omega (arith, length-drop first line))) ∙ found.1 in
    record { value = c.scan_cells.ensures.value ∙ ap cells_found rest; cells_after = c.scan_cells.ensures.cells_after ∙ ap (λ fs. sets c.args.cells.now 0 (tenths_all fs)) rest }
