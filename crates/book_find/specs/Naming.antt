-- The area that a line names, by the numbers of the areas that stand: T names none.
use Rattle.std.specs.Prelude.{Ok, Err, None, Option}
use Rattle.laws.specs.{ℕ, List}
use Rattle.line_entry.specs.{Entry, Parsed}
use Rattle.holding.specs.{place_from}
use Rattle.book_find.specs.declared.Named.{Named}

-- the place of the first number that is the number
abbrev pub place_in : List ℕ → ℕ → Option ℕ
place_in numbers number = place_from (λ (n : ℕ). n) number 0 numbers

abbrev pub nothing_named : Named
nothing_named = record { number = 0; found = None }

-- "A line that cannot be read as an entry is refused before the holding is looked at."
abbrev pub named_by : List ℕ → Parsed → Named
named_by numbers (Ok (Entry.On on)) = record { number = on.area; found = place_in numbers on.area }
named_by numbers (Ok (Entry.Column column)) = nothing_named
named_by numbers (Err refusal) = nothing_named
