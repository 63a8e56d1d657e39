-- `book_parts::put_part` meets its contract: by whether the book may run, and whether a line is left.
use Rattle.laws.proofs.{sym, ◌∙◌, arith}
use Rattle.book_run.proofs.Runs.{run_of}
use Rattle.book_parts.proofs.Parts.{comes, part-more, part_last, refused-comes, refused-part}
use Rattle.book_parts.proofs.put_part.Goals as goal

pub returns-then-part-book : goal.returns-then-part-book
returns-then-part-book c =
    let may = sym c.may_run.ensures ∙ c.if-may_run.true in
    let ran = run_of _ _ _ _ _ _ _ _ may c.put_lines-part.ensures in
    record { whole = part-more _ _ _ may ran (omega arith) c.if-part-book.true; comes_to = comes _ _ _ may ran (omega arith) _ }

pub returns-then-may_run : goal.returns-then-may_run
returns-then-may_run c =
    let may = sym c.may_run.ensures ∙ c.if-may_run.true in
    let ran = run_of _ _ _ _ _ _ _ _ may c.put_lines-part.ensures in
    record { whole = part_last _ _ _ may ran (omega arith) c.if-part-book.false c.put_closing-count.ensures; comes_to = comes _ _ _ may ran (omega arith) _ }

pub returns : goal.returns
returns c =
    let may_not = sym c.may_run.ensures ∙ c.if-may_run.false in
    record { whole = refused-part _ _ _ may_not c.put_refused-count.ensures (omega arith); comes_to = refused-comes _ _ _ may_not _ }
