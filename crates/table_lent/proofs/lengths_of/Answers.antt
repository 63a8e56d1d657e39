-- `table_lent::lengths_of` meets its contract, by whether there are ten.
use Rattle.laws.proofs.{◌∙◌}
use Rattle.table_lent.proofs.Lent.{no_lengths, ten_lengths}
use Rattle.table_lent.proofs.lengths_of.Goals as goal

pub returns-in-Some : goal.returns-in-Some
returns-in-Some c = c.in-Some.ensures.cases.same ∙ ten_lengths c.args.table.now c.in-Some.ensures.cases.enough

pub returns-in-None : goal.returns-in-None
returns-in-None c = no_lengths c.args.table.now c.in-None.ensures.cases
