-- `step_file::settle` meets its contract: the bounds that a statement carries keep every sum and difference within its numbers.
use Rattle.laws.proofs.{◌≤◌, arith, rules}
use Rattle.statement_carried.proofs.Bounds.{bounds}
use Rattle.step_file.specs.{change_of, filed_area, return_of}
use Rattle.step_file.proofs.Laws.{received_at_most, due_at_most}
use Rattle.step_file.proofs.settle.Goals as goal

pub overflow_sub-area : goal.overflow_sub-area
overflow_sub-area c = (bounds _ c.requires.0).surrendered

pub overflow_add-after-2 : goal.overflow_add-after-2
overflow_add-after-2 c = let b = bounds _ c.requires.0 in omega (arith, b.returns, b.open_year_lem)

pub overflow_add-after-3 : goal.overflow_add-after-3
overflow_add-after-3 c =
    let b = bounds _ c.requires.0 in
    let gained : c.received-gained.result ≤ 18446744073709552 = received_at_most _ _ _ _ c.received-gained.ensures c.change_to-change.ensures (search rules) in
    omega (arith, b.received, gained)

pub overflow_add-after-4 : goal.overflow_add-after-4
overflow_add-after-4 c =
    let b = bounds _ c.requires.0 in
    let owed = due_at_most c.change_to-change.result _ _ c.due-owed.ensures in
    omega (arith, b.surrendered, b.received, owed)

pub overflow_sub-balance : goal.overflow_sub-balance
overflow_sub-balance c =
    let b = bounds _ c.requires.0 in
    let owed = due_at_most c.change_to-change.result _ _ c.due-owed.ensures in
    omega (arith, b.surrendered, owed)

pub returns : goal.returns
unfolding change_of filed_area return_of
returns c = simp (c.due-owed.ensures, c.received-gained.ensures, c.change_to-change.ensures, c.area_stock-closing.ensures)
