-- `statement_field::put_field` meets its contract: below ten a number's digit is its byte, and a number of 64 bits has at most twenty digits.
use Rattle.laws.proofs.{sym, ap, List, ℕ, ◌∷◌, [], ◌++◌, arith}
use Rattle.text.proofs.Digits.{digits_small, length-digits_le}
use Rattle.statement_format.specs.{number_text}
use Rattle.statement_field.proofs.Puts.{put_then, put_one, put_as, put_within}
use Rattle.statement_field.proofs.put_field.Goals as goal

pub returns-then-number-lt10 : goal.returns-then-number-lt10
unfolding number_text
returns-then-number-lt10 c =
    let end = c in
    let digit = end in
    let test = digit in
    let a = test.args in
    put_as (ap (λ (l : List ℕ). l ++ (a.end ∷ [])) (sym (digits_small a.number (omega (arith, test.if-number-lt10.true)))))
    (put_within (omega arith) (put_then (put_one digit.put_byte-next.ensures) (put_one end.put_byte.ensures)))

pub returns : goal.returns
unfolding number_text
returns c =
    let end = c in
    let number = end in
    put_then
    (record { wrote = number.put_number-next.ensures; few = length-digits_le 19 number.args.number (omega arith) })
    (put_one end.put_byte-2.ensures)
