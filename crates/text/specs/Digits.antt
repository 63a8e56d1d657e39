-- "numbers are decimal without leading zeros": the digits of a number, the most significant first, each its byte.
use Rattle.std.specs.Prelude.{◌+◌, ◌/◌, ◌%◌, ◌∷◌, ◌++◌}
use Rattle.laws.specs.{code, ℕ, zero, suc, cond, List, [], ltb}

-- in at most as many steps as the first number says
unfoldable pub digits_in : ℕ → ℕ → List ℕ
digits_in zero n = (code "0" + n) ∷ []
digits_in (suc steps) n = cond (ltb n 10) ((code "0" + n) ∷ []) (digits_in steps (n / 10) ++ ((code "0" + n % 10) ∷ []))

unfoldable pub digits : ℕ → List ℕ
digits n = digits_in n n
