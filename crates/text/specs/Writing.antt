-- What a write leaves. One statement for every writer.
use Rattle.std.specs.Prelude.{◌+◌, ◌≤◌, ◌≡◌}
use Rattle.laws.specs.{ℕ, min, List, length, sets}

-- the greatest place
abbrev pub greatest : ℕ
greatest = 18446744073709551615

-- the bytes put into a buffer from `at` on, those past its end left out, and the place after the last of them
pub record Wrote (buffer : List ℕ) (at : ℕ) (bytes : List ℕ) (after : List ℕ) (next : ℕ) : Type 0 where
  pub stored : after ≡ sets buffer at bytes
  pub place : next ≡ min (at + length bytes) greatest
  pub lent : length buffer ≤ greatest
