-- `table_extend::put_longer` meets its contract: on the table that is begun, the stores of the length and the cells make the longer table.
use Rattle.laws.proofs.{ℕ, ◌+◌, sym, ap, ◌∙◌, arith, length, take, length-set}
use Rattle.laws.proofs.Stores.{copied}
use Rattle.table_extend.specs.{begun}
use Rattle.table_extend.proofs.Longer.{longer-length, longer-stored}
use Rattle.table_extend.proofs.put_longer.Goals as goal

pub returns : goal.returns
returns c =
    let a = c.args in
    let inside = c.requires.column_lt_column_count in
    let table = begun (take a.count a.numbers.now) in
    let e = c.begin-many.ensures in
    let cells = a.cells.now in
    record {
      value = ap (λ (n : ℕ). n + length cells) e.value ∙ sym (longer-length table a.column cells inside.0 inside.1);
      numbers_after =
          copied _ _ cells _ _ c.copy_from_slice.ensures.after (omega arith)
          (simp length-set (omega (arith, e.value, c.begin-many.auto.numbers, c.requires.cells_len_bound.1)))
          ∙ rw (e.value, e.numbers_after)
          (longer-stored table a.column cells inside.0 inside.1 a.numbers.now c.requires.cells_len_bound.1);
    }
