-- How long what is printed is.
use Rattle.laws.proofs.{ℕ, suc, ◌+◌, ◌*◌, ◌^◌, ◌≤◌, ◌<◌, arith, length, length-append}
use Rattle.refusals.specs.{Refusal, number_of}
use Rattle.refusals.proofs.Laws.{number_range}
use Rattle.statement_format.specs.{start_text, joined}
use Rattle.statement_field.proofs.Puts.{number-few}
use Rattle.book_print.specs.{pair_text, refusal_text, foot_text, end_text}

pub pair_few : (j k letter a b : ℕ) → a < 10 ^ suc j → b < 10 ^ suc k → length (pair_text letter a b) ≤ 2 + (suc j + 1) + (suc k + 1)
unfolding pair_text joined start_text
pair_few j k letter a b h i = simp length-append (omega (arith, number-few j a 44 h, number-few k b 10 i))

pub refusal-few : (k line : ℕ) (refusal : Refusal) → line < 10 ^ suc k → length (refusal_text line refusal) ≤ suc k + 6
unfolding refusal_text
refusal-few k line refusal h =
    omega (arith, pair_few k 1 88 line (number_of refusal) h (number_range refusal).1)

pub end_few : (j k accepted refused : ℕ) → accepted < 10 ^ suc j → refused < 10 ^ suc k → length (end_text accepted refused) ≤ suc j + suc k + 4
unfolding end_text
end_few j k accepted refused h i = omega (arith, pair_few j k 69 accepted refused h i)

pub foot_few : (k received surrendered balance : ℕ) → received < 10 ^ suc k → surrendered < 10 ^ suc k → balance < 10 ^ suc k
    → length (foot_text received surrendered balance) ≤ 2 + 3 * (suc k + 1)
unfolding foot_text joined start_text
foot_few k received surrendered balance r s b =
    simp length-append (omega (arith, number-few k received 44 r, number-few k surrendered 44 s, number-few k balance 10 b))
