-- What the lines of a listing show, read off their bytes: "R: area, first and last year, change, received, due, balance; .. W: area, due".
use Rattle.std.specs.Prelude.{◌+◌, ◌-◌, ◌*◌}
use Rattle.laws.specs.{ℕ, zero, suc, Bool, cond, List, foldl, eqb, get_or, code}
use Rattle.text.specs.{split, field_at}

-- the number that a field's digits are
unfoldable pub number_shown : List ℕ → ℕ
number_shown field = foldl (λ (n b : ℕ). 10 * n + (b - code "0")) 0 field

-- the number in a field of a line, of which the first is the letter
abbrev pub shown_at : ℕ → List ℕ → ℕ
shown_at k line = number_shown (field_at (split line) k)

abbrev pub begins_with : ℕ → List ℕ → Bool
begins_with letter line = eqb (get_or line 0 0) letter

-- "what its R lines show as received"
unfoldable pub received_shown : List ℕ → ℕ
received_shown line = cond (begins_with (code "R") line) (shown_at 5 line) 0

-- "what its R and W lines show as due"
unfoldable pub due_shown : List ℕ → ℕ
due_shown line = cond (begins_with (code "R") line) (shown_at 6 line) (cond (begins_with (code "W") line) (shown_at 2 line) 0)

-- the balance of the area n with a line more: "the last balance shown, nought after W"
unfoldable pub balance_after : ℕ → ℕ → List ℕ → ℕ
balance_after n before line =
    cond (eqb (shown_at 1 line) n)
    (cond (begins_with (code "R") line) (shown_at 7 line) (cond (begins_with (code "W") line) 0 before))
    before

unfoldable pub last_balance : List (List ℕ) → ℕ → ℕ
last_balance lines n = foldl (balance_after n) 0 lines

-- the sum over the numbers of areas, 1 to so many
unfoldable pub sum_to : ℕ → (ℕ → ℕ) → ℕ
sum_to zero f = 0
sum_to (suc n) f = sum_to n f + f (suc n)
