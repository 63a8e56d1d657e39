-- How long the lines of R and W are at most, by the digits of their numbers.
use Rattle.laws.proofs.{ℕ, ◌+◌, ◌-◌, ◌^◌, ◌≤◌, ◌<◌, Bool, true, false, cond, ◌∷◌, arith, eqb, length, length-append}
use Rattle.book_room.specs.{tonnes_digits, units_digits, return_width, withdrawal_width}
use Rattle.units.specs.{Change}
use Rattle.statement_format.specs.{start_text, number_text, joined, field}
use Rattle.step_outcome.specs.{Filed, Report}
use Rattle.book_print.specs.{loss_text, change_text, report_text}
use Rattle.statement_field.proofs.Puts.{number-few}
use Rattle.theorem_keeping.proofs.Stocks.{size_of}

change-length : (change : Change) → size_of change < 10 ^ tonnes_digits → length (change_text change) ≤ 1 + field tonnes_digits
unfolding change_text loss_text
change-length (Change.Gain t) h = omega (arith, number-few (tonnes_digits - 1) t 44 h)
change-length (Change.Loss t) h = go (eqb t 0)
  where
    go : (b : Bool) → length (cond b (number_text 0 44) (45 ∷ number_text t 44)) ≤ 1 + field tonnes_digits
    go true = omega (arith, number-few 0 0 44 (omega arith))
    go false = omega (arith, number-few (tonnes_digits - 1) t 44 h)

pub return_length : (x : Filed) → x.area < 1000 → x.first < 10000 → x.last < 10000 → size_of x.change < 10 ^ tonnes_digits
    → x.received < 10 ^ tonnes_digits → x.due < 10 ^ tonnes_digits → x.balance < 10 ^ units_digits → length (report_text (Report.Return x)) ≤ return_width
unfolding report_text joined start_text
return_length x a f l c r d b =
    simp length-append
    (omega (
      arith,
      number-few 2 x.area 44 a,
      number-few 3 x.first 44 f,
      number-few 3 x.last 44 l,
      change-length x.change c,
      number-few (tonnes_digits - 1) x.received 44 r,
      number-few (tonnes_digits - 1) x.due 44 d,
      number-few (units_digits - 1) x.balance 10 b,
    ))

pub withdrawal_length : (area due : ℕ) → area < 1000 → due < 10 ^ units_digits → length (report_text (Report.Withdrawal area due)) ≤ withdrawal_width
unfolding report_text joined start_text
withdrawal_length area due a d = simp length-append (omega (arith, number-few 2 area 44 a, number-few (units_digits - 1) due 10 d))
