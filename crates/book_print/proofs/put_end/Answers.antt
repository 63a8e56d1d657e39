-- `book_print::put_end` meets its contract: its line is a letter and two numbers.
use Rattle.book_print.specs.{end_text}
use Rattle.book_print.proofs.put_end.Goals as goal

pub returns : goal.returns
unfolding end_text
returns c = c.put_pair.ensures
