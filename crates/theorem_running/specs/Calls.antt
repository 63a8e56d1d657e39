-- Lines sent one by one through the call, refused ones included: each call is given the statement and the table that the last accepted ones wrote,
-- and one output, of any length and content.
use Rattle.std.specs.Prelude.{◌∷◌, ◌++◌}
use Rattle.laws.specs.{ℕ, List, [], length, ℤ, pos, negsuc}
use Rattle.table_bytes.specs.{numbers_of}
use Rattle.line_entry.specs.{AreaAct}
use Rattle.line.specs.{entry_of}
use Rattle.call_answer.specs.{call_answer}
use Rattle.call_book.specs.{Caller, begin, after_call, shown_after, caller_after}
use Rattle.theorem_running.specs.Running.{acts_in, RunAccounted}

-- what the call answers to a line
abbrev pub answer_to : Caller → List ℕ → ℤ
answer_to caller line = call_answer caller.statement caller.table line (length caller.out)

-- "A refused step counts as not sent": what an accepted call gives, and nothing for "a refusal's number with a minus sign"
abbrev pub if_taken : {A : Type 0} → ℤ → List A → List A
if_taken (pos n) given = given
if_taken (negsuc n) given = []

-- the acts of the lines whose call was accepted
unfoldable pub sent_from : Caller → List (List ℕ) → List AreaAct
sent_from caller [] = []
sent_from caller (line ∷ lines) = if_taken (answer_to caller line) (acts_in (entry_of line)) ++ sent_from (after_call caller line) lines

-- what the accepted calls wrote behind the statement, one after the other
unfoldable pub reports_from : Caller → List (List ℕ) → List ℕ
reports_from caller [] = []
reports_from caller (line ∷ lines) = if_taken (answer_to caller line) (shown_after caller line) ++ reports_from (after_call caller line) lines

-- demand 3 for lines sent from `H,0` and a table of any bytes; T lines among them make the table longer, and the one that stands in the end served
-- every accepted act
abbrev pub CallsAccounted : (table out : List ℕ) → List (List ℕ) → ℕ → Type 0
CallsAccounted table out lines n =
    let caller = begin table out in
    let after = caller_after caller lines in
    RunAccounted (numbers_of after.table) (sent_from caller lines) after.statement (reports_from caller lines) n
