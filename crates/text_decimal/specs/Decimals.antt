-- Numbers with a point. With k decimals, zeros filled in, and without its point such a number is a whole one in the unit of the last decimal.
use Rattle.std.specs.Prelude.{◌-◌, ◌∷◌, Err}
use Rattle.laws.specs.{code, ℕ, cond, List, [], ltb, eqb, length, take, drop, replicate}
use Rattle.text.specs.{width_to}
use Rattle.text_number.specs.{Number, Unread, more, number_in}

abbrev pub point : ℕ
point = code "."

abbrev pub zeros : ℕ → List ℕ
zeros k = replicate k (code "0")

-- a whole number, and behind it nothing, or a point and one to k digits
unfoldable pub with_decimals : ℕ → Number → List ℕ → Number
with_decimals k n [] = more n (zeros k)
with_decimals k n (b ∷ ds) =
    cond (eqb (length ds) 0) (Err Unread.Malformed)
    (cond (ltb k (length ds)) (Err Unread.Malformed)
    (more (more n ds) (zeros (k - length ds))))

unfoldable pub decimal_in : ℕ → List ℕ → Number
decimal_in k s = with_decimals k (number_in (take (width_to point s) s)) (drop (width_to point s) s)

-- "hectares up to six digits, then optionally a point and one to four digits", in ten-thousandths
unfoldable pub hectares_in : List ℕ → Number
hectares_in s = cond (ltb 6 (width_to point s)) (Err Unread.Malformed) (decimal_in 4 s)

-- "each a number with at most one decimal", in tenths
abbrev pub cell_in : List ℕ → Number
cell_in s = decimal_in 1 s
