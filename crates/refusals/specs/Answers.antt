-- Bytes or numbers written to the front of a lent buffer, or a refusal, which leaves it as it was.
use Rattle.std.specs.Prelude.{◌++◌, Ok, Err, Result}
use Rattle.laws.specs.{ℕ, List, length, drop}
use Rattle.refusals.specs.declared.Refusal.{Refusal}
use Rattle.refusals.specs.Refusals.{Verdict}

-- how many were written, or why none were
abbrev pub Written : Type 0
Written = Result ℕ Refusal

-- what is answered: how many, or the refusal
unfoldable pub written : Verdict → List ℕ → Written
written (Ok _) numbers = Ok (length numbers)
written (Err refusal) numbers = Err refusal

-- what stands in the buffer then; "Bytes past a written length keep their old content."
unfoldable pub buffer_after : Verdict → List ℕ → List ℕ → List ℕ
buffer_after (Ok _) numbers buffer = numbers ++ drop (length numbers) buffer
buffer_after (Err refusal) numbers buffer = buffer
