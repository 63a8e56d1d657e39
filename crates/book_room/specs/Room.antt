-- How many bytes are printed at most, of a book and of a holding that entries reach.
use Rattle.std.specs.Prelude.{◌+◌, ◌*◌}
use Rattle.laws.specs.{ℕ}
use Rattle.statement_format.specs.{start_width, field}
use Rattle.book_foot.specs.{most_for_foot}
use Rattle.book_listing.specs.{longest_book}

-- the digits of a return's tonnes, and of an area's units
abbrev pub tonnes_digits : ℕ
tonnes_digits = 10

abbrev pub units_digits : ℕ
units_digits = 12

-- an R line: its area, two years, a change that may have a sign, two numbers of units and the balance; and a W line
abbrev pub return_width : ℕ
return_width = start_width + field 3 + 2 * field 4 + 1 + 3 * field tonnes_digits + field units_digits

abbrev pub withdrawal_width : ℕ
withdrawal_width = start_width + field 3 + field units_digits

-- what a line prints at most, for each of its bytes and for its end: what an X line takes
abbrev pub most_for_byte : ℕ
most_for_byte = start_width + field 5 + field 2

-- what E takes at most
abbrev pub most_for_end : ℕ
most_for_end = start_width + 2 * field 5

-- a book's last line may lack its end; the foot and E close the listing
abbrev pub room_for_any : ℕ
room_for_any = most_for_byte * (longest_book + 1) + most_for_foot + most_for_end
