-- What the lines of a book have come to, and whether a book can have come so far.
use Rattle.std.specs.Prelude.{◌+◌, ◌∷◌}
use Rattle.laws.specs.{ℕ, Bool, all_of, List, [], leb, length, take, replicate}
use Rattle.table.specs.{longest_table}
use Rattle.holding.specs.{empty_holding}
use Rattle.book_listing.specs.{Run, longest_book}
use Rattle.book_reached.specs.declared.Reached.{Reached}

-- the run that lines have come to
abbrev pub run_of : Reached → Run
run_of reached = record {
  own = take reached.count reached.table;
  holding = reached.holding;
  accepted = reached.accepted;
  refused = reached.refused;
}

-- before the first line
abbrev pub nothing_reached : Reached
nothing_reached = record { holding = empty_holding; table = replicate longest_table 0; count = 0; accepted = 0; refused = 0 }

-- whether a book of so many bytes is none too long, and can have come so far: its table has no more numbers than a table may have, and no more lines were
-- accepted or refused than bytes lie before the place; a last line that lacks its byte 10 ends one place behind the book
unfoldable pub may_run : ℕ → ℕ → ℕ → ℕ → ℕ → Bool
may_run length next count accepted refused =
    all_of (leb length longest_book ∷ leb next (longest_book + 1) ∷ leb count longest_table ∷ leb accepted next ∷ leb refused next ∷ [])

abbrev pub may_run_from : List ℕ → ℕ → Reached → Bool
may_run_from book next reached = may_run (length book) next reached.count reached.accepted reached.refused
