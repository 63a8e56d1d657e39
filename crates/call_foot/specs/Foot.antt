-- The foot of a statement: "F, then units received, units surrendered and balance over all areas, withdrawn ones included".
use Rattle.laws.specs.{ℕ, List, length, ℤ}
use Rattle.refusals.specs.{Verdict, buffer_after}
use Rattle.holding_look.specs.{units_of}
use Rattle.statement.specs.{read_of}
use Rattle.book_foot.specs.{units_text}
use Rattle.call_output.specs.{with_room}
use Rattle.call_answer.specs.{answer_of}

-- the F line of the holding that a statement carries
unfoldable pub foot_bytes : List ℕ → List ℕ
foot_bytes statement = units_text (units_of (read_of statement).holding)

-- "11 statement", and "8 only where no other applies"
unfoldable pub foot_weighed : List ℕ → ℕ → Verdict
foot_weighed statement room = with_room (read_of statement).verdict (foot_bytes statement) room

-- "The call returns the bytes written, or a refusal's number with a minus sign."
unfoldable pub foot_answer : List ℕ → ℕ → ℤ
foot_answer statement room = answer_of (foot_weighed statement room) (foot_bytes statement)

-- the output after the call
unfoldable pub foot_output : List ℕ → List ℕ → List ℕ
foot_output statement out = buffer_after (foot_weighed statement (length out)) (foot_bytes statement) out
