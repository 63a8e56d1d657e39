-- `statement_parse::read_years` meets its contract: each field is read at the place after the one before, as in the definition.
use Rattle.statement_parse.specs.{years_at}
use Rattle.statement_parse.proofs.read_years.Goals as goal

pub returns : goal.returns
unfolding years_at
returns c =
    let latest = c in
    let open_year = latest in
    simp (latest.number-latest.ensures.value, open_year.number-open_year.ensures.value, open_year.number-opening.ensures.value, open_year.number-number.ensures.value)
