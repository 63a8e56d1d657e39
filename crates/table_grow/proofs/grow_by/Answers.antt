-- `table_grow::grow_by` meets its contract: where no area stands the table's verdict decides, and else its refusal, or 33.
use Rattle.laws.proofs.{arith, take}
use Rattle.std.proofs.lemmas.Result.{err_from_is_err_and}
use Rattle.table_grow.proofs.Growth.{none_stands, table_refuses, areas_refuse}
use Rattle.table_grow.proofs.grow_by.Goals as goal

pub returns-then-areas-eq0 : goal.returns-then-areas-eq0
returns-then-areas-eq0 c =
    let a = c.args in
    let e = c.extend.ensures in
    let grown = none_stands (take a.count a.numbers.now) a.column a.cells.now a.numbers.now (omega arith) a.areas _ _ c.if-areas-eq0.true (e.value, e.numbers_after) in
    record { value = grown.0; numbers_after = grown.1 }

pub returns-in_err-judge : goal.returns-in_err-judge
returns-in_err-judge c =
    let a = c.args in
    let refused =
    table_refuses (take a.count a.numbers.now) a.column a.cells.now a.numbers.now (omega arith) a.areas _ c.judge.ensures _ c.in_err-judge.was
    in
    let p = err_from_is_err_and c.from_residual.result c.from_residual.ensures.1 in
    rw (p.1, p.2) (record { value = refused.0; numbers_after = refused.1 })

pub returns : goal.returns
returns c =
    let a = c.args in
    let refused =
    areas_refuse (take a.count a.numbers.now) a.column a.cells.now a.numbers.now (omega arith) a.areas _ c.judge.ensures
    (omega (arith, c.if-areas-eq0.false)) c.in_ok-judge.was
    in
    record { value = refused.0; numbers_after = refused.1 }
