-- "1 wrong .. form (a well-formed value out of range has its own number)".
use Rattle.std.specs.Prelude.{◌||◌, Ok, Err}
use Rattle.laws.specs.{ℕ, Bool, true, false, cond, ltb}
use Rattle.text_number.specs.{Number, Unread}

abbrev pub malformed : Number → Bool
malformed (Ok n) = false
malformed (Err Unread.Large) = false
malformed (Err Unread.Malformed) = true

-- it is not one of low to high
abbrev pub outside : ℕ → ℕ → Number → Bool
outside low high (Ok n) = ltb n low || ltb high n
outside low high (Err unread) = true

-- the value, 0 where there is none
abbrev pub value_of : Number → ℕ
value_of (Ok n) = n
value_of (Err unread) = 0

-- the value up to a greatest one, 0 above it
unfoldable pub fitted : ℕ → Number → ℕ
fitted greatest n = cond (outside 0 greatest n) 0 (value_of n)
