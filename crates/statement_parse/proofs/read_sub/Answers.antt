-- `statement_parse::read_sub` meets its contract: each field is read at the place after the one before, as in the definition.
use Rattle.statement_parse.specs.{sub_line_at}
use Rattle.statement_parse.proofs.read_sub.Goals as goal

pub returns : goal.returns
unfolding sub_line_at
returns c =
    let residue = c in
    let tenths = residue in
    simp (
      residue.read_residue-cleared.ensures,
      residue.number-planted.ensures.value,
      residue.forest_type-trees.ensures,
      tenths.number-tenths.ensures.value,
      tenths.number-number.ensures.value,
      tenths.line-start.ensures,
    )
