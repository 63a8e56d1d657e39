-- `sheet_export::put_sheet` meets its contract, by the length of the book; there is room for any export, and for a refusal.
use Rattle.laws.proofs.{ap, arith, length}
use Rattle.text.proofs.Writes.{wrote_as}
use Rattle.book_parts.proofs.Parts.{whole}
use Rattle.sheet_export.proofs.Bound.{export_at_most}
use Rattle.sheet_export.proofs.Exported.{printed-over, printed-within}
use Rattle.sheet_export.proofs.put_sheet.Goals as goal

pub returns-then-book-gt-LONGEST_BOOK : goal.returns-then-book-gt-LONGEST_BOOK
returns-then-book-gt-LONGEST_BOOK c =
    let over = printed-over c.args.book.now c.if-book-gt-LONGEST_BOOK.true in
    whole (wrote_as over c.put_refusal.ensures.wrote) (omega (arith, ap length over, c.put_refusal.ensures.few))

pub returns : goal.returns
returns c =
    let book = c.args.book.now in
    let short = c.if-book-gt-LONGEST_BOOK.false in
    let within = printed-within book short in
    whole (wrote_as within c.put_export.ensures) (omega (arith, ap length within, export_at_most book short))
