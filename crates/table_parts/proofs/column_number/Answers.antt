-- `table_parts::column_number` meets its contract: the two places that are found are at most 2 and 10.
use Rattle.laws.proofs.{◌++◌, arith}
use Rattle.text.proofs.Widths.{width_le}
use Rattle.table_parts.specs.{kind_letters, type_letters}
use Rattle.table_parts.proofs.column_number.Goals as goal

pub overflow_mul-result : goal.overflow_mul-result
overflow_mul-result c = omega (arith, c.end_of.ensures, width_le c.args.kind kind_letters)

pub overflow_add-result : goal.overflow_add-result
overflow_add-result c =
    omega (arith, c.end_of.ensures, c.end_of-2.ensures, width_le c.args.kind kind_letters, width_le c.args.letter (type_letters ++ type_letters))
