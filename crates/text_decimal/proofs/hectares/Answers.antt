-- `text_decimal::hectares` meets its contract, by how many bytes stand before the point.
use Rattle.laws.proofs.{◌∙◌, arith}
use Rattle.text_decimal.proofs.Laws.{seven_digits, six_digits}
use Rattle.text_decimal.proofs.hectares.Goals as goal

pub returns-then-end_of-gt6 : goal.returns-then-end_of-gt6
returns-then-end_of-gt6 c = seven_digits _ (omega (arith, c.end_of.ensures))

pub returns : goal.returns
returns c = c.decimal.ensures ∙ six_digits _ (omega (arith, c.end_of.ensures))
