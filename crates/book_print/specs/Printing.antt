-- What `book` prints: "R: area, first and last year, change, received, due, balance; X: line, refusal; W: area, due; E: lines accepted, refused", and
-- "before the E line .. F, then units received, units surrendered and balance over all areas".
-- A comma is byte 44, a minus sign byte 45; every line ends with byte 10.
use Rattle.std.specs.Prelude.{◌∷◌, ◌+◌, ◌*◌}
use Rattle.laws.specs.{ℕ, cond, List, [], eqb, code}
use Rattle.text.specs.{comma, line_end}
use Rattle.units.specs.{Change}
use Rattle.refusals.specs.{Refusal, number_of}
use Rattle.statement_format.specs.{start_text, number_text, joined, start_width, long_width, short_width, field}
use Rattle.step_outcome.specs.{Report}

-- the digits of a loss behind a minus sign; a change of 0 t has none
unfoldable pub loss_text : ℕ → List ℕ
loss_text tonnes = cond (eqb tonnes 0) (number_text 0 comma) (code "-" ∷ number_text tonnes comma)

unfoldable pub change_text : Change → List ℕ
change_text (Change.Gain tonnes) = number_text tonnes comma
change_text (Change.Loss tonnes) = loss_text tonnes

-- what is printed for an accepted line: R and W lines alone
unfoldable pub report_text : Report → List ℕ
report_text Report.Nothing = []
report_text (Report.Return filed) =
    joined
    (start_text (code "R") ∷ number_text filed.area comma ∷ number_text filed.first comma ∷ number_text filed.last comma ∷ change_text filed.change
    ∷ number_text filed.received comma ∷ number_text filed.due comma ∷ number_text filed.balance line_end ∷ [])
report_text (Report.Withdrawal area due) = joined (start_text (code "W") ∷ number_text area comma ∷ number_text due line_end ∷ [])

-- a letter and two numbers
unfoldable pub pair_text : ℕ → ℕ → ℕ → List ℕ
pair_text letter a b = joined (start_text letter ∷ number_text a comma ∷ number_text b line_end ∷ [])

-- "X: line, refusal"
unfoldable pub refusal_text : ℕ → Refusal → List ℕ
refusal_text line refusal = pair_text (code "X") line (number_of refusal)

-- "F, then units received, units surrendered and balance"
unfoldable pub foot_text : ℕ → ℕ → ℕ → List ℕ
foot_text received surrendered balance =
    joined (start_text (code "F") ∷ number_text received comma ∷ number_text surrendered comma ∷ number_text balance line_end ∷ [])

-- "E: lines accepted, refused"
unfoldable pub end_text : ℕ → ℕ → List ℕ
end_text accepted refused = pair_text (code "E") accepted refused

-- ---- how many bytes they take at most

-- a sign, a number and a comma
abbrev pub change_width : ℕ
change_width = 1 + long_width

-- what is printed for an accepted line: a return's is the longest
abbrev pub report_width : ℕ
report_width = start_width + 3 * short_width + change_width + 3 * long_width

-- a letter and two numbers, and where the second is a refusal's, of two digits
abbrev pub pair_width : ℕ
pair_width = start_width + 2 * long_width

abbrev pub refusal_width : ℕ
refusal_width = start_width + long_width + field 2

-- a letter and three numbers
abbrev pub foot_width : ℕ
foot_width = start_width + 3 * long_width
