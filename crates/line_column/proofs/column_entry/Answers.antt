-- `line_column::column_entry` meets its contract, by the verdict of the line's fields.
use Rattle.std.proofs.lemmas.Result.{err_from_is_err_and}
use Rattle.laws.proofs.{ap}
use Rattle.line_entry.specs.{Entry}
use Rattle.line_entry.proofs.Laws.{turned, taken}
use Rattle.line_column.specs.{column_rule}
use Rattle.line_column.proofs.column_entry.Goals as goal

pub judge-judged-requires : goal.judge-judged-requires
judge-judged-requires c = c.scan-places.ensures

pub returns-in_err-judged : goal.returns-in_err-judged
unfolding column_rule
returns-in_err-judged c = let p = err_from_is_err_and c.from_residual.result c.from_residual.ensures.1 in rw (p.1, p.2) (turned _ _ _ _ c.judge-judged.ensures.verdict_value.0 c.in_err-judged.was)

pub returns : goal.returns
unfolding column_rule
returns c = let j = c.judge-judged.ensures.verdict_value in taken _ _ _ _ j.0 c.in_ok-judged.was (ap Entry.Column j.1)
