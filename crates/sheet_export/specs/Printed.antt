-- What `sheet` prints.
use Rattle.laws.specs.{ℕ, cond, List, ltb, length}
use Rattle.refusals.specs.{Refusal}
use Rattle.book_print.specs.{refusal_text}
use Rattle.book_listing.specs.{longest_book}
use Rattle.book_export.specs.{export_of}

-- the export, and X,0,1 alone for a book over 65536 bytes
unfoldable pub sheet_printed : List ℕ → List ℕ
sheet_printed book = cond (ltb longest_book (length book)) (refusal_text 0 Refusal.Form) (export_of book)
