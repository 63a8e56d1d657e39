-- What a verdict makes of an answer and of the buffer, and what an answer says of the verdict.
use Rattle.std.specs.Prelude.{Ok, Err}
use Rattle.laws.proofs.{ℕ, ◌≡◌, refl, ap, List, ◌++◌, length, drop}
use Rattle.refusals.specs.{Refusal, Verdict, written, buffer_after}

module _ (v : Verdict) (numbers buffer : List ℕ) where
  pub when_turned : (r : Refusal) → v ≡ Err r → (Err r ≡ written v numbers) × (buffer ≡ buffer_after v numbers buffer)
  unfolding written buffer_after
  when_turned r e = (rw e, rw e)

  pub when_clear : (n : ℕ) (after : List ℕ) → v ≡ Ok tt → n ≡ length numbers → after ≡ numbers ++ drop (length numbers) buffer
      → (Ok n ≡ written v numbers) × (after ≡ buffer_after v numbers buffer)
  unfolding written buffer_after
  when_clear n after e k h = (rw e (ap Ok k), rw e h)

pub was_turned : (v : Verdict) (numbers : List ℕ) (r : Refusal) → written v numbers ≡ Err r → v ≡ Err r
unfolding written
was_turned (Ok _) numbers r e = cc
was_turned (Err s) numbers r e = cc

pub was_clear : (v : Verdict) (numbers : List ℕ) (n : ℕ) → written v numbers ≡ Ok n → (v ≡ Ok tt) × (n ≡ length numbers)
unfolding written
was_clear (Ok _) numbers n e = (refl, cc)
was_clear (Err s) numbers n e = (cc, cc)
