-- `line::body` meets its contract, by the last byte.
use Rattle.laws.proofs.{refl}
use Rattle.line.proofs.Laws.{body_open, body_ended, body_empty}
use Rattle.line.proofs.body.Goals as goal

pub returns-then-count-eq0 : goal.returns-then-count-eq0
returns-then-count-eq0 c = body_empty _ _ refl c.if-count-eq0.true

pub returns-then-line-count-eq10 : goal.returns-then-line-count-eq10
returns-then-line-count-eq10 c = body_ended _ _ refl c.if-line-count-eq10.true

pub returns : goal.returns
returns c = body_open _ _ refl c.if-line-count-eq10.false
