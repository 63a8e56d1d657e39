-- A listing in parts: what the next lines print, and behind the last line the foot and E. A part says where the next begins, and what the lines before it have come to.
use Rattle.laws.specs.{ℕ, true, cond, List, [], length, take, drop}
use Rattle.std.specs.Prelude.{◌<◌, ◌+◌, ◌≤◌, ◌≡◌, ◌∷◌, ◌++◌}
use Rattle.book_print.specs.{foot_width, pair_width}
use Rattle.book_listing.specs.{Run, run_from, printed_from, closing, refused_book}
use Rattle.book_reached.specs.{Reached, run_of, may_run_from}
use Rattle.book_run.specs.{Part, lines_from}

-- how many lines a part lists at most
abbrev pub part_lines : ℕ
part_lines = 512

-- the foot and E, where no line is left
abbrev pub closing_at : Run → List (List ℕ) → List ℕ
closing_at run [] = closing run
closing_at run (line ∷ lines) = []

-- what these take at most
abbrev pub closing_width : ℕ
closing_width = foot_width + pair_width

-- what so many lines from some run on print, and what closes the listing
unfoldable pub part_from : Run → List (List ℕ) → List ℕ
part_from run lines = printed_from run (take part_lines lines) ++ closing_at (run_from run (take part_lines lines)) (drop part_lines lines)

-- the part of a book's listing from a place on, or X,0,1 and E,0,1 where the book cannot have come so far
unfoldable pub part_of : List ℕ → ℕ → Reached → List ℕ
part_of book next reached = cond (may_run_from book next reached) (part_from (run_of reached) (lines_from book next)) refused_book

-- where a part comes to: the run of its lines, and those behind them; a book that is not run stays where it was, and none of it is left. What can be run
-- can be run on, and while a byte is left the place moves on
pub record ComesTo (book : List ℕ) (next : ℕ) (reached : Reached) (part : Part) : Type 0 where
  pub run : run_of part.reached ≡ cond (may_run_from book next reached) (run_from (run_of reached) (take part_lines (lines_from book next))) (run_of reached)
  pub left : lines_from book part.next ≡ cond (may_run_from book next reached) (drop part_lines (lines_from book next)) []
  pub may : may_run_from book next reached ≡ true → may_run_from book part.next part.reached ≡ true
  pub on : next < length book → next < part.next

-- bytes at the front of a buffer, what follows as it was, and how many they are, by which a caller takes that part
pub record Whole (bytes buffer after : List ℕ) (n : ℕ) : Type 0 where
  pub count : n ≡ length bytes
  pub stored : after ≡ bytes ++ drop n buffer
  pub fits : n ≤ length after
  pub part : n ≡ length (take n after)
