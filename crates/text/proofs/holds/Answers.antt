-- `text::holds` meets its contract: what the library looks for.
use Rattle.laws.proofs.{◌∙◌}
use Rattle.text.proofs.Widths.{holds_any}
use Rattle.text.proofs.holds.Goals as goal

pub returns : goal.returns
returns c = c.contains.ensures.value ∙ holds_any c.args.byte c.args.bytes.now
