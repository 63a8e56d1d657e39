-- `table::judge` meets its contract, by the one case.
use Rattle.refusals.specs.{smallest, weigh_all}
use Rattle.table.specs.{is_table, judged}
use Rattle.table.proofs.judge.Goals as goal

pub returns : goal.returns
unfolding judged smallest weigh_all is_table
returns c = simp (c.refuse_if.ensures, c.is_empty-none.ensures, c.has_columns-kept.ensures)
