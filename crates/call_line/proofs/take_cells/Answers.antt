-- `call_line::take_cells` meets its contract: cells that nothing refuses extend the table.
use Rattle.laws.proofs.{refl, sym, ◌∙◌}
use Rattle.std.proofs.lemmas.Result.{err_from_is_err_and}
use Rattle.call_output.proofs.Given.{gives_refused, gives_as}
use Rattle.call_column.proofs.Cells.{cells-extend}
use Rattle.call_line.proofs.take_cells.Goals as goal

pub returns-in_err-judge_cells : goal.returns-in_err-judge_cells
returns-in_err-judge_cells c =
    let told = err_from_is_err_and c.from_residual.result c.from_residual.ensures.1 in
    rw (told.1, told.2) (gives_refused _ _ _ _ (sym c.judge_cells.ensures ∙ c.in_err-judge_cells.was))

pub returns : goal.returns
returns c =
    let clear = sym c.judge_cells.ensures ∙ c.in_ok-judge_cells.was in
    gives_as (cells-extend _ _ _ _ clear ∙ sym clear) refl c.write_longer.ensures
