-- "numbers are decimal without leading zeros": at least one digit, and no limit to how many.
use Rattle.std.specs.Prelude.{◌+◌, ◌*◌, ◌-◌, ◌&&◌, ◌∷◌, Ok, Err, Result}
use Rattle.laws.specs.{code, ℕ, Bool, true, false, cond, not, List, [], ltb, leb, eqb}
use Rattle.text_number.specs.declared.Unread.{Unread}

-- what bytes stand for: a number, or why there is none
abbrev pub Number : Type 0
Number = Result ℕ Unread

-- what is below has room for one digit more
abbrev pub room : ℕ
room = 100000000000000

-- a number with one digit more; above fifteen digits they are all one, since no range goes so far
abbrev pub append_digit : Number → ℕ → Number
append_digit (Ok v) d = cond (ltb v room) (Ok (v * 10 + d)) (Err Unread.Large)
append_digit (Err unread) d = Err unread

-- a number with one byte more
unfoldable pub append : Number → ℕ → Number
append n b = cond (leb (code "0") b && leb b (code "9")) (append_digit n (b - code "0")) (Err Unread.Malformed)

unfoldable pub more : Number → List ℕ → Number
more n [] = n
more n (b ∷ bs) = more (append n b) bs

-- there is a first byte, and it is no zero in front of others
unfoldable pub headed : List ℕ → Bool
headed [] = false
headed (b ∷ []) = true
headed (b ∷ c ∷ bs) = not (eqb b (code "0"))

unfoldable pub number_in : List ℕ → Number
number_in s = cond (headed s) (more (Ok 0) s) (Err Unread.Malformed)
