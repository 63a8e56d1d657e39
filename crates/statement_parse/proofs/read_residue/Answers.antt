-- `statement_parse::read_residue` meets its contract: each field is read at the place after the one before, as in the definition.
use Rattle.statement_parse.specs.{residue_at}
use Rattle.statement_parse.proofs.read_residue.Goals as goal

pub returns : goal.returns
unfolding residue_at
returns c =
    let year = c in
    simp (year.number-year_field.ensures.value, year.number-age_field.ensures.value, year.forest_type-type_field.ensures)
