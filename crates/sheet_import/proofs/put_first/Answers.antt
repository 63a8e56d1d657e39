-- `sheet_import::put_first` meets its contract: the letter, and the count behind it.
use Rattle.statement_field.proofs.Puts.{put_then}
use Rattle.sheet_import.proofs.put_first.Goals as goal

pub returns : goal.returns
returns c = let count = c in put_then count.put_start-next.ensures count.put_field.ensures
