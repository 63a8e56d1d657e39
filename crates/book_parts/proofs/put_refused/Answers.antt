-- `book_parts::put_refused` meets its contract: X and E, one after the other.
use Rattle.statement_field.proofs.Puts.{put_then}
use Rattle.book_parts.proofs.put_refused.Goals as goal

pub returns : goal.returns
returns c = let end = c in put_then end.put_refusal-next.ensures end.put_end.ensures
