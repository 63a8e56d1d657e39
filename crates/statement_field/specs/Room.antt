-- What a write of a part of a statement leaves. A statement is bounded, since its numbers have at most twenty digits each and its
-- lists at most as many elements as there are places; so the place after it is short of the greatest, at which places stay.
use Rattle.std.specs.Prelude.{◌≤◌}
use Rattle.laws.specs.{ℕ, List, length}
use Rattle.text.specs.{Wrote}

-- bytes written, which are at most so many
pub record Put (most : ℕ) (buffer : List ℕ) (at : ℕ) (bytes : List ℕ) (after : List ℕ) (next : ℕ) : Type 0 where
  pub wrote : Wrote buffer at bytes after next
  pub few : length bytes ≤ most
