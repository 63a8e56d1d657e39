-- `sheet_export::export` meets its contract, by the length of the book.
use Rattle.call_output.proofs.Given.{gives_refused, gives_written}
use Rattle.sheet_export.proofs.Exported.{too_long, weighed_clear}
use Rattle.sheet_export.proofs.export.Goals as goal

pub returns-then-book-gt-LONGEST_BOOK : goal.returns-then-book-gt-LONGEST_BOOK
returns-then-book-gt-LONGEST_BOOK c = gives_refused _ _ _ _ (too_long c.args.book.now c.if-book-gt-LONGEST_BOOK.true)

pub returns : goal.returns
returns c =
    let write = c.write_export.ensures in
    gives_written _ _ _ _ _ (weighed_clear c.args.book.now c.if-book-gt-LONGEST_BOOK.false) (write.value, write.out_after)
