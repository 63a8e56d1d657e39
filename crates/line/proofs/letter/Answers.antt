-- `line::letter` meets its contract, by the first two bytes.
use Rattle.laws.proofs.{arith}
use Rattle.line.proofs.Laws.{letter_none, letter_alone, letter_parted, letter_longer}
use Rattle.line.proofs.letter.Goals as goal

pub returns-then-body-eq0 : goal.returns-then-body-eq0
returns-then-body-eq0 c = letter_none _ c.if-body-eq0.true

pub returns-then-body-eq1 : goal.returns-then-body-eq1
returns-then-body-eq1 c = letter_alone _ c.if-body-eq1.true

pub returns-then-body-eq44 : goal.returns-then-body-eq44
returns-then-body-eq44 c = letter_parted _ (omega arith) c.if-body-eq44.true

pub returns : goal.returns
returns c = letter_longer _ (omega arith) c.if-body-eq44.false
