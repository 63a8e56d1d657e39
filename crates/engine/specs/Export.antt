-- "Export the accepted S entries of a book": what the call answers, and the output after it.
use Rattle.laws.specs.{ℕ, List, length, ℤ}
use Rattle.refusals.specs.{buffer_after}
use Rattle.book_export.specs.{export_weighed, export_of}
use Rattle.call_output.specs.{with_room}
use Rattle.call_answer.specs.{answer_of}

unfoldable pub export_answer : List ℕ → ℕ → ℤ
export_answer book room = answer_of (with_room (export_weighed book) (export_of book) room) (export_of book)

unfoldable pub export_output : List ℕ → List ℕ → List ℕ
export_output book out = buffer_after (with_room (export_weighed book) (export_of book) (length out)) (export_of book) out
