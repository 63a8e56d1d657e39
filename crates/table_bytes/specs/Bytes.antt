-- A table as bytes: "two bytes a number, low byte first, as the table comes in".
use Rattle.std.specs.Prelude.{◌+◌, ◌*◌, ◌/◌, ◌%◌, ◌∷◌}
use Rattle.laws.specs.{ℕ, not, List, [], eqb, ltb, length}
use Rattle.refusals.specs.{Verdict, ◌⇒◌, smallest, Refusal}
use Rattle.table.specs.{longest_table}

unfoldable pub numbers_of : List ℕ → List ℕ
numbers_of [] = []
numbers_of (low ∷ []) = []
numbers_of (low ∷ high ∷ bytes) = (low + 256 * high) ∷ numbers_of bytes

-- "6 .. odd byte", or more numbers than a table can have; "8 output shorter than needed"
unfoldable pub decodable : List ℕ → ℕ → Verdict
decodable bytes room =
    smallest (not (eqb (length bytes % 2) 0) ⇒ Refusal.TableColumn
    ∷ ltb longest_table (length bytes / 2) ⇒ Refusal.TableColumn
    ∷ ltb room (length bytes / 2) ⇒ Refusal.OutputShort
    ∷ [])
