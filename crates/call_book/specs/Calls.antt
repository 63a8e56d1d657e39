-- A book run line by line through the call, as the field unit's own program runs it: it keeps a statement, a table and one output buffer, and
-- lends them to every call. Behind the last line it asks for the foot.
use Rattle.std.specs.Prelude.{◌+◌, ◌&&◌, ◌||◌, ◌∷◌, ◌++◌}
use Rattle.laws.specs.{ℕ, suc, Bool, true, false, cond, List, [], eqb, length, get_or, take, drop, ℤ, pos, negsuc, code}
use Rattle.text.specs.{line_end}
use Rattle.book_room.specs.{return_width}
use Rattle.holding.specs.{empty_holding}
use Rattle.statement_format.specs.{statement_of, carried_width}
use Rattle.book_print.specs.{pair_text, end_text}
use Rattle.call_answer.specs.{call_answer, call_output}
use Rattle.call_foot.specs.{foot_answer, foot_output}

-- the most bytes that a call writes (`call_few`): an output as long is never too short
abbrev pub most_written : ℕ
most_written = carried_width + return_width

pub record Caller : Type 0 where
  pub statement : List ℕ
  pub table : List ℕ
  pub out : List ℕ
  pub accepted : ℕ
  pub refused : ℕ

-- no area, and the bytes of a table, of which there are none where there is no table
unfoldable pub begin : (table out : List ℕ) → Caller
begin table out = record { statement = statement_of empty_holding; table = table; out = out; accepted = 0; refused = 0 }

-- a T line, by its first byte
unfoldable pub is_column_line : List ℕ → Bool
is_column_line line = eqb (get_or line 0 0) (code "T")

-- the letters that begin a report
abbrev pub is_report_letter : ℕ → Bool
is_report_letter b = eqb b (code "R") || eqb b (code "W")

-- how many bytes stand before the first line that begins with R or W; the test says whether a line begins here
unfoldable pub before_report : Bool → List ℕ → ℕ
before_report begins [] = 0
before_report begins (b ∷ bytes) = cond (begins && is_report_letter b) 0 (suc (before_report (eqb b line_end) bytes))

-- "The output takes the new statement, then what `book` prints for an accepted R or W": the two parts of the bytes written
abbrev pub statement_in : List ℕ → List ℕ
statement_in bytes = take (before_report true bytes) bytes

abbrev pub report_in : List ℕ → List ℕ
report_in bytes = drop (before_report true bytes) bytes

-- what is kept of the bytes that an accepted call wrote: "for T it takes the longer table instead"
abbrev pub taken : Caller → Bool → List ℕ → List ℕ → Caller
taken caller true out bytes =
    record { statement = caller.statement; table = bytes; out = out; accepted = caller.accepted + 1; refused = caller.refused }
taken caller false out bytes =
    record { statement = statement_in bytes; table = caller.table; out = out; accepted = caller.accepted + 1; refused = caller.refused }

-- "The call returns the bytes written, or a refusal's number with a minus sign."
abbrev pub answered : Caller → List ℕ → List ℕ → ℤ → Caller
answered caller line out (pos n) = taken caller (is_column_line line) out (take n out)
answered caller line out (negsuc n) =
    record { statement = caller.statement; table = caller.table; out = out; accepted = caller.accepted; refused = caller.refused + 1 }

unfoldable pub after_call : Caller → List ℕ → Caller
after_call caller line =
    answered caller line
    (call_output caller.statement caller.table line caller.out)
    (call_answer caller.statement caller.table line (length caller.out))

-- what the program prints after a call: the report, if there is one, or X,line,refusal
abbrev pub shown : Caller → List ℕ → List ℕ → ℤ → List ℕ
shown caller line out (pos n) = cond (is_column_line line) [] (report_in (take n out))
shown caller line out (negsuc n) = pair_text (code "X") (caller.accepted + caller.refused + 1) (suc n)

unfoldable pub shown_after : Caller → List ℕ → List ℕ
shown_after caller line =
    shown caller line
    (call_output caller.statement caller.table line caller.out)
    (call_answer caller.statement caller.table line (length caller.out))

-- from some line on: what it prints for each
unfoldable pub calls_from : Caller → List (List ℕ) → List ℕ
calls_from caller [] = []
calls_from caller (line ∷ lines) = shown_after caller line ++ calls_from (after_call caller line) lines

-- the program after the lines
unfoldable pub caller_after : Caller → List (List ℕ) → Caller
caller_after caller [] = caller
caller_after caller (line ∷ lines) = caller_after (after_call caller line) lines

-- what the call for the foot wrote
abbrev pub foot_in : List ℕ → ℤ → List ℕ
foot_in out (pos n) = take n out
foot_in out (negsuc n) = []

-- and what the program prints behind the last line: the foot of its statement, and E
abbrev pub closed_by : Caller → List ℕ
closed_by caller =
    foot_in (foot_output caller.statement caller.out) (foot_answer caller.statement (length caller.out))
    ++ end_text caller.accepted caller.refused

-- the sheet of a book, by calls
abbrev pub sheet_from : Caller → List (List ℕ) → List ℕ
sheet_from caller lines = calls_from caller lines ++ closed_by (caller_after caller lines)
