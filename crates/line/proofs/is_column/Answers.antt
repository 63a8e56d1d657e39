-- `line::is_column` meets its contract: the letter of what the line is besides its end.
use Rattle.laws.proofs.{ap, ◌∙◌, eqb}
use Rattle.line.specs.{letter_of, is_column_line}
use Rattle.line.proofs.is_column.Goals as goal

pub returns : goal.returns
unfolding is_column_line
returns c = ap (λ l. eqb l 84) (c.letter.ensures ∙ ap letter_of c.body.ensures)
