-- `statement_cursor::line` meets its contract, by the test on the place.
use Rattle.laws.proofs.{◌∙◌}
use Rattle.statement_cursor.proofs.Starts.{line_nowhere, line_started}
use Rattle.statement_cursor.proofs.line.Goals as goal

pub returns-then-at-eq0 : goal.returns-then-at-eq0
returns-then-at-eq0 c = line_nowhere _ _ _ c.if-at-eq0.true

pub returns : goal.returns
returns c = c.start.ensures ∙ line_started _ _ _ c.if-at-eq0.false
