-- `book_parts::put_closing` meets its contract: the foot and E, one after the other.
use Rattle.statement_field.proofs.Puts.{put_then}
use Rattle.book_parts.proofs.put_closing.Goals as goal

pub returns : goal.returns
returns c = let end = c in put_then end.put_foot-next.ensures end.put_end.ensures
