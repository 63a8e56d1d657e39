-- What is answered, and what then stands in the output, under a verdict and with these bytes to write.
use Rattle.std.specs.Prelude.{◌≡◌}
use Rattle.laws.specs.{ℕ, List, length}
use Rattle.refusals.specs.{Verdict, Written, written, buffer_after}
use Rattle.call_output.specs.Outputs.{with_room}

pub record Gives (verdict : Verdict) (bytes out : List ℕ) (answer : Written) (after : List ℕ) : Type 0 where
  pub told : answer ≡ written (with_room verdict bytes (length out)) bytes
  pub left : after ≡ buffer_after (with_room verdict bytes (length out)) bytes out
