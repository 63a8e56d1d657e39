-- How many bytes a field takes at most, with the byte that ends it, and what lines of such fields take.
use Rattle.std.specs.Prelude.{◌+◌, ◌*◌}
use Rattle.laws.specs.{ℕ}
use Rattle.holding.specs.{most_areas, most_subs}

-- a letter and a comma
abbrev pub start_width : ℕ
start_width = 2

-- a number of so many digits; of 64 bits and of 16 bits
abbrev pub field : ℕ → ℕ
field digits = digits + 1

abbrev pub long_width : ℕ
long_width = field 20

abbrev pub short_width : ℕ
short_width = field 5

-- a type
abbrev pub type_width : ℕ
type_width = 3

-- ---- of any holding

abbrev pub residue_width : ℕ
residue_width = type_width + 2 * short_width

abbrev pub sub_width : ℕ
sub_width = start_width + short_width + long_width + type_width + short_width + residue_width

abbrev pub years_width : ℕ
years_width = 4 * short_width

abbrev pub amounts_width : ℕ
amounts_width = long_width + short_width + 3 * long_width

abbrev pub area_width : ℕ
area_width = start_width + years_width + amounts_width + long_width + sub_width * most_subs

abbrev pub statement_width : ℕ
statement_width = start_width + long_width + area_width * most_areas

-- ---- of a holding that a statement carries

abbrev pub carried_sub_width : ℕ
carried_sub_width = start_width + field 3 + field 10 + type_width + short_width + residue_width

abbrev pub carried_area_width : ℕ
carried_area_width = start_width + years_width + field 1 + short_width + 3 * field 15 + field 2 + carried_sub_width * most_subs

abbrev pub carried_width : ℕ
carried_width = start_width + field 2 + carried_area_width * most_areas
