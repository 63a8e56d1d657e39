-- What the type that a line names allows: whether it is listed, may be planted, and goes with the year of planting.
use Rattle.std.specs.Prelude.{Some, None, Option}
use Rattle.laws.specs.{Bool, true, false}
use Rattle.forest.specs.{Forest}
use Rattle.text_number.specs.{Number}
use Rattle.text_value.specs.{outside}
use Rattle.ranges.specs.{last_year, first_planted, is_bare}

abbrev pub unlisted : Option Forest → Bool
unlisted (Some f) = false
unlisted None = true

-- "(type not B)"
abbrev pub unplantable : Option Forest → Bool
unplantable (Some f) = is_bare f
unplantable None = true

abbrev pub misdated_if : Bool → Number → Bool
misdated_if true n = outside 0 0 n
misdated_if false n = outside first_planted last_year n

-- "planted 1900 to 2199. Bare land is type B, planted 0; B with a year, or another type with 0, is 5."
abbrev pub misdated : Option Forest → Number → Bool
misdated (Some f) n = misdated_if (is_bare f) n
misdated None n = misdated_if false n

-- the type named, where one is
abbrev pub forest_of : Option Forest → Forest
forest_of (Some f) = f
forest_of None = Forest.Bare
