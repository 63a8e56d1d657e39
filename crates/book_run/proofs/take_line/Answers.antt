-- `book_run::take_line` meets its contract, by what the line was read as.
use Rattle.std.specs.Prelude.{Ok}
use Rattle.book_run.proofs.Turns.{line_refused, line_column_lem, line_act}
use Rattle.book_run.proofs.take_line.Goals as goal

pub returns-in_default : goal.returns-in_default
returns-in_default c =
    let a = c.args in
    line_refused a.table.now a.count.now c.requires.0 c.requires.1 a.default.now a.looked a.line.now a.parsed _ _ _
    c.in_default.is c.refusal_in.ensures c.turned.ensures

pub returns-in_default-entry : goal.returns-in_default-entry
returns-in_default-entry c =
    let a = c.args in
    let t = c.take_column-verdict.ensures in
    line_column_lem a.table.now a.count.now c.requires.0 c.requires.1 a.default.now a.looked a.line.now a.parsed _ _ _ _ _ _
    c.in-Ok.is c.in_default-entry.is c.column_outcome.ensures t.value t.table_after t.count_after

pub returns : goal.returns
returns c =
    let a = c.args in
    line_act a.table.now a.count.now c.requires.0 c.requires.1 a.default.now a.looked a.line.now a.parsed _ _ _
    c.in-Ok.is c.in-On.is c.apply_to.ensures
