-- Whether bytes can be written into a buffer.
use Rattle.std.specs.Prelude.{◌∷◌}
use Rattle.laws.specs.{ℕ, List, [], ltb, length}
use Rattle.refusals.specs.{Verdict, ◌⇒◌, smallest, Refusal}

-- "8 output shorter than needed"; room is how many bytes the buffer has
unfoldable pub writable : List ℕ → ℕ → Verdict
writable bytes room = smallest (ltb room (length bytes) ⇒ Refusal.OutputShort ∷ [])
