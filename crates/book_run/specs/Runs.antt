-- Lines of a book run from a place on, so many at most, where the lines before have come to what is handed over.
use Rattle.laws.specs.{ℕ, Bool, true, false, List, length, take, drop}
use Rattle.std.specs.Prelude.{◌<◌, ◌+◌, ◌*◌, ◌≤◌, ◌≡◌}
use Rattle.text.specs.{Wrote}
use Rattle.book_print.specs.{report_width}
use Rattle.book_listing.specs.{lines_of, run_from, printed_from}
use Rattle.book_reached.specs.{Reached, run_of, may_run_from}
use Rattle.book_run.specs.declared.Part.{Part}

-- the lines of a book from a place on
abbrev pub lines_from : List ℕ → ℕ → List (List ℕ)
lines_from book next = lines_of (drop next book)

-- what they print is put from a place on, and the rest is that of their run
pub record RunOf (book : List ℕ) (next : ℕ) (reached : Reached) (most : ℕ) (out : List ℕ) (at : ℕ) (after : List ℕ) (part : Part) : Type 0 where
  pub wrote : Wrote out at (printed_from (run_of reached) (take most (lines_from book next))) after part.count
  pub run : run_of part.reached ≡ run_from (run_of reached) (take most (lines_from book next))
  pub left : lines_from book part.next ≡ drop most (lines_from book next)
  pub may : may_run_from book part.next part.reached ≡ true
  pub on : 1 ≤ most → next < length book → next < part.next
  pub short : part.count ≤ at + most * report_width

-- they are run where the book can have come so far; else nothing is put, and nothing comes of it
abbrev pub RunsIf : Bool → List ℕ → ℕ → Reached → ℕ → List ℕ → ℕ → List ℕ → Part → Type 0
RunsIf true book next reached most out at after part = RunOf book next reached most out at after part
RunsIf false book next reached most out at after part = (after ≡ out) × (part ≡ record { count = at; next = next; reached = reached })
