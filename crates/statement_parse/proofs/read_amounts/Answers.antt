-- `statement_parse::read_amounts` meets its contract: each field is read at the place after the one before, as in the definition.
use Rattle.statement_parse.specs.{amounts_at}
use Rattle.statement_parse.proofs.read_amounts.Goals as goal

pub returns : goal.returns
unfolding amounts_at
returns c =
    let surrendered = c in
    let stock = surrendered in
    simp (
      surrendered.number-surrendered.ensures.value,
      surrendered.number-received.ensures.value,
      stock.number-stock.ensures.value,
      stock.number-returns.ensures.value,
      stock.number-withdrawn.ensures.value,
    )
