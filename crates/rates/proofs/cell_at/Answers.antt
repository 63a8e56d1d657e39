-- `rates::cell_at` meets its contract, by where the age lies.
use Rattle.rates.proofs.LookUp.{below_first, without_cells, within, beyond_last}
use Rattle.rates.proofs.cell_at.Goals as goal

pub returns-then-age-first : goal.returns-then-age-first
returns-then-age-first c = below_first _ c.args.cells.now _ c.if-age-first.true

pub returns-then-cells-eq0 : goal.returns-then-cells-eq0
returns-then-cells-eq0 c = without_cells _ _ _ c.if-age-first.false c.if-cells-eq0.true

pub returns-then-i-cells : goal.returns-then-i-cells
returns-then-i-cells c = within _ _ _ c.if-age-first.false c.if-i-cells.true

pub returns : goal.returns
returns c = beyond_last _ _ _ c.if-age-first.false c.if-i-cells.false
