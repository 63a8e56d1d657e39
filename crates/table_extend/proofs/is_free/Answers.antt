-- `table_extend::is_free` meets its contract: a part of ten numbers from the column on holds all the lengths from there.
use Rattle.laws.proofs.{ap, ◌∙◌, arith, take, drop, length-take, length-drop, take_all}
use Rattle.laws.specs.{each_at_most}
use Rattle.table_extend.specs.{is_free}
use Rattle.table_extend.proofs.is_free.Goals as goal

pub returns : goal.returns
unfolding is_free
returns c =
    let a = c.args in
    c.each_at_most.ensures
    ∙ ap (each_at_most 0)
    (c.part-from_column.ensures
    ∙ rw c.part-lengths.ensures (take_all 10 (drop a.column (take 10 a.table.now)) (simp (length-drop, length-take) (omega arith))))
