-- `book_run::refusal_in` meets its contract, by what the line was read as.
use Rattle.std.specs.Prelude.{Err}
use Rattle.laws.proofs.{sym, ap}
use Rattle.book_run.specs.{refusal_in}
use Rattle.book_run.proofs.refusal_in.Goals as goal

pub returns-in-Err : goal.returns-in-Err
returns-in-Err c = sym (ap refusal_in c.in-Err.is)
