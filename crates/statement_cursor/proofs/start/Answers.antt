-- `statement_cursor::start` meets its contract, by the tests on the letter and the comma.
use Rattle.laws.proofs.{arith}
use Rattle.statement_cursor.proofs.Starts.{start-short, start_other, start_no_comma, start-found}
use Rattle.statement_cursor.proofs.start.Goals as goal

pub returns-then-s-at : goal.returns-then-s-at
returns-then-s-at c = start-short _ _ _ (omega arith)

pub returns-then-s-at-2 : goal.returns-then-s-at-2
returns-then-s-at-2 c = start_other _ _ _ c.if-s-at-2.true

pub returns-then-s-comma : goal.returns-then-s-comma
returns-then-s-comma c = start-short _ _ _ (omega arith)

pub returns-then-s-comma-ne44 : goal.returns-then-s-comma-ne44
returns-then-s-comma-ne44 c = start_no_comma _ _ _ c.if-s-comma-ne44.true

pub returns : goal.returns
returns c =
    let a = c.args in
    let found = start-found a.s.now a.at a.letter (omega arith) c.if-s-at-2.false c.if-s-comma-ne44.false in
    omega arith
