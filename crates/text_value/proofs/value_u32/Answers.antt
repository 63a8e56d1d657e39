-- `text_value::value_u32` meets its contract: a value that fits is turned into the type's.
use Rattle.laws.proofs.{◌∙◌}
use Rattle.text_value.proofs.Laws.{converted}
use Rattle.text_value.proofs.value_u32.Goals as goal

pub returns : goal.returns
returns c = c.unwrap_or-2.ensures ∙ converted 4294967295 _ _ _ c.unwrap_or.ensures c.try_from.ensures
