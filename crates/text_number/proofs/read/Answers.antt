-- `text_number::read` meets its contract, by how many bytes there are and whether the first is a zero.
use Rattle.laws.proofs.{◌∙◌, arith}
use Rattle.text_number.proofs.Laws.{none_read, one_read, zero_in_front, several_read}
use Rattle.text_number.proofs.read.Goals as goal

pub returns-then-bytes-eq0 : goal.returns-then-bytes-eq0
returns-then-bytes-eq0 c = none_read _ c.if-bytes-eq0.true

pub returns-then-bytes-eq1 : goal.returns-then-bytes-eq1
returns-then-bytes-eq1 c = c.more.ensures ∙ one_read _ c.if-bytes-eq1.true

pub returns-then-bytes-eq48 : goal.returns-then-bytes-eq48
returns-then-bytes-eq48 c = zero_in_front _ (omega arith) c.if-bytes-eq48.true

pub returns : goal.returns
returns c = c.more-2.ensures ∙ several_read _ (omega arith) c.if-bytes-eq48.false
