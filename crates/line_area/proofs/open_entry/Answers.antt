-- `line_area::open_entry` meets its contract, by the verdict on its area and year.
use Rattle.std.proofs.lemmas.Result.{err_from_is_err_and}
use Rattle.line_entry.specs.{open_rule, Act}
use Rattle.line_area.proofs.Laws.{year_turned, year_taken}
use Rattle.line_area.proofs.open_entry.Goals as goal

pub returns-in_err-read : goal.returns-in_err-read
unfolding open_rule
returns-in_err-read c = let p = err_from_is_err_and c.from_residual.result c.from_residual.ensures.1 in rw (p.1, p.2) (year_turned _ _ _ c.area_and_year-read.ensures _ _ c.in_err-read.was)

pub returns : goal.returns
unfolding open_rule
returns c = year_taken _ _ _ c.area_and_year-read.ensures Act.Open c.in_ok-read.was
