-- What a call writes: "The output takes the new statement, then what `book` prints for an accepted R or W; for T it takes the longer table instead,
-- two bytes a number, low byte first, as the table comes in."
use Rattle.std.specs.Prelude.{◌/◌, ◌%◌, ◌∷◌, ◌++◌, ◌+◌}
use Rattle.laws.specs.{code, ℕ, List, [], ltb, length}
use Rattle.refusals.specs.{Refusal, Verdict, weighed}
use Rattle.text.specs.{line_end}
use Rattle.holding.specs.{Area, Holding}
use Rattle.step_outcome.specs.{Outcome, Report, placed}
use Rattle.statement_format.specs.{start_text, number_text, joined, area_text, statement_of, start_width, long_width, area_width}
use Rattle.book_print.specs.{report_text, report_width}

unfoldable pub table_bytes : List ℕ → List ℕ
table_bytes [] = []
table_bytes (n ∷ numbers) = n % 256 ∷ n / 256 ∷ table_bytes numbers

abbrev pub reported_bytes : Holding → Report → List ℕ
reported_bytes holding report = statement_of holding ++ report_text report

-- after a step of a holding
abbrev pub state_bytes : Holding → Outcome → List ℕ
state_bytes holding outcome = reported_bytes (placed holding outcome) outcome.report

-- a statement of which one area is changed: its first line, bytes as they came, the area, bytes as they came
unfoldable pub changed_text : ℕ → List ℕ → Area → List ℕ → List ℕ
changed_text count before area behind = joined (start_text (code "H") ∷ number_text count line_end ∷ before ∷ area_text area ∷ behind ∷ [])

unfoldable pub changed_bytes : ℕ → List ℕ → Area → List ℕ → Report → List ℕ
changed_bytes count before area behind report = changed_text count before area behind ++ report_text report

-- what these take at most besides the bytes as they came
abbrev pub changed_width : ℕ
changed_width = start_width + long_width + area_width + report_width

-- "8 output shorter than needed": "8 only where no other applies"
unfoldable pub with_room : Verdict → List ℕ → ℕ → Verdict
with_room verdict bytes room = weighed verdict (ltb room (length bytes)) Refusal.OutputShort
