-- "The call returns the bytes written, or a refusal's number with a minus sign."
use Rattle.laws.specs.{ℤ, pos, neg_ℤ}
use Rattle.std.specs.Prelude.{◌<◌, ◌^◌, Ok, Err}
use Rattle.refusals.specs.{number_of, Written}

abbrev pub signed : Written → ℤ
signed (Ok count) = pos count
signed (Err refusal) = neg_ℤ (pos (number_of refusal))

-- a count that has room beside a sign
abbrev pub Fitting : Written → Type 0
Fitting (Ok count) = count < 2 ^ 63
Fitting (Err refusal) = Unit
