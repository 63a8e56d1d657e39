-- How many bytes an export has at most.
use Rattle.std.specs.Prelude.{◌+◌, ◌*◌}
use Rattle.laws.specs.{ℕ}
use Rattle.book_listing.specs.{longest_book}

-- the heading: five names of 26 bytes in all, each between quotes, four commas, CR and LF
abbrev pub heading_width : ℕ
heading_width = 26 + 5 * 2 + 4 + 2

-- what a row takes at most, for each byte of its line and for the line's end
abbrev pub most_for_byte : ℕ
most_for_byte = 3

-- a book's last line may lack its end
abbrev pub export_room : ℕ
export_room = heading_width + most_for_byte * (longest_book + 1)
