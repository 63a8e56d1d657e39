-- `statement_parse::read_holding` meets its contract: each part is read at the place after the one before, as in the definition.
use Rattle.statement_parse.specs.{holding_within}
use Rattle.statement_parse.proofs.read_holding.Goals as goal

pub returns : goal.returns
unfolding holding_within
returns c =
    let areas = c in
    simp (areas.read_areas-read.ensures, areas.number-count.ensures.value, areas.start-start.ensures)
