-- `book_parts::put_listing` meets its contract, by the length of the book.
use Rattle.laws.proofs.{subst}
use Rattle.text.proofs.Writes.{wrote_then, wrote_as}
use Rattle.book_listing.specs.{longest_book}
use Rattle.book_listing.proofs.Folding.{listing_over}
use Rattle.book_reached.specs.{Reached, nothing_reached, may_run_from}
use Rattle.book_reached.proofs.Bounds.{may-begin}
use Rattle.book_run.specs.{RunsIf}
use Rattle.book_run.proofs.Runs.{run_of}
use Rattle.book_parts.proofs.Parts.{listing_whole}
use Rattle.book_parts.proofs.put_listing.Goals as goal

pub returns-then-book-gt-LONGEST_BOOK : goal.returns-then-book-gt-LONGEST_BOOK
returns-then-book-gt-LONGEST_BOOK c = wrote_as (listing_over _ c.if-book-gt-LONGEST_BOOK.true) c.put_refused.ensures.wrote

pub returns : goal.returns
returns c =
    let book = c.args.book.now in
    let out = c.args.out.now in
    let by =
    subst (λ (r : Reached). RunsIf (may_run_from book 0 r) book 0 r longest_book out 0 c.put_lines-all.new.out c.put_lines-all.result)
    c.nothing_reached-nothing.ensures c.put_lines-all.ensures in
    let ran = run_of book 0 nothing_reached longest_book out 0 _ _ (may-begin book c.if-book-gt-LONGEST_BOOK.false) by in
    wrote_as (listing_whole book c.if-book-gt-LONGEST_BOOK.false _ ran.run) (wrote_then ran.wrote c.put_closing.ensures.wrote)
