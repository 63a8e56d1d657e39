-- `statement_field::put_short` meets its contract: a number of sixteen bits has at most five digits.
use Rattle.laws.proofs.{arith}
use Rattle.statement_field.proofs.Puts.{number-few, put_few}
use Rattle.statement_field.proofs.put_short.Goals as goal

pub returns : goal.returns
returns c =
    let a = c.args in
    put_few (number-few 4 a.number a.end (omega arith)) c.put_field.ensures
