-- `line_entry::letter_in` meets its contract, by the field's length.
use Rattle.line_entry.proofs.Laws.{letter_alone, no_letter}
use Rattle.line_entry.proofs.letter_in.Goals as goal

pub returns-then-field-ne1 : goal.returns-then-field-ne1
returns-then-field-ne1 c = no_letter _ c.if-field-ne1.true

pub returns : goal.returns
returns c = letter_alone _ c.if-field-ne1.false
