-- `sheet_write::put_quoted` meets its contract. The loop's invariant: what is left of the field, and the closing quote, put behind what was put, are all that
-- stands behind the opening quote.
use Rattle.laws.proofs.{ℕ, ◌≡◌, List, [], ◌∷◌, ◌++◌, length, drop}
use Rattle.text.specs.{Wrote}
use Rattle.sheet_read.specs.{quote}
use Rattle.sheet_write.specs.{doubled}
use Rattle.sheet_write.proofs.put_quoted.Given as goal

abbrev pub invariant-loop-byte : goal.invariant-loop-byte
invariant-loop-byte l = (length l.out ≡ length l.initial.out)
    × ((o : List ℕ) (p : ℕ) → Wrote l.out l.next (doubled (drop l.byte-index l.field) ++ (quote ∷ [])) o p → Wrote l.initial.out l.initial.next (doubled l.field ++ (quote ∷ [])) o p)
