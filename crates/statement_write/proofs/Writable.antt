-- What a measured write answers: bounded bytes have their whole length as the place after them, so that the measure decides; where
-- there is no room for them they are refused, and where there is, they stand in front of what stood behind them.
use Rattle.std.specs.Prelude.{Ok, Err}
use Rattle.laws.proofs.{ℕ, ◌+◌, ◌≤◌, ◌<◌, ◌≡◌, ap, ◌∙◌, List, ◌++◌, arith, lt-ltb, le-ltb, length, drop}
use Rattle.refusals.specs.{weighed, weigh_all, smallest, written, buffer_after, Refusal}
use Rattle.refusals.proofs.Answers.{when_turned, when_clear}
use Rattle.text.specs.{Wrote, greatest}
use Rattle.text.proofs.Writes.{wrote-next, wrote_is}
use Rattle.statement_write.specs.{writable}

module _ (bytes buffer : List ℕ) where
  pub no_room : length buffer < length bytes
      → (Err Refusal.OutputShort ≡ written (writable bytes (length buffer)) bytes) × (buffer ≡ buffer_after (writable bytes (length buffer)) bytes buffer)
  unfolding writable smallest weigh_all weighed
  no_room h = when_turned (writable bytes (length buffer)) bytes buffer Refusal.OutputShort (simp (lt-ltb (length buffer) (length bytes) h))

  pub enough_room : (after : List ℕ) (n : ℕ) → length bytes ≤ length buffer → Wrote buffer 0 bytes after n
      → (Ok n ≡ written (writable bytes (length buffer)) bytes) × (after ≡ buffer_after (writable bytes (length buffer)) bytes buffer)
  unfolding writable smallest weigh_all weighed
  enough_room after n h w =
      let fits : 0 + length bytes ≤ length buffer = omega arith in
      let e : n ≡ length bytes = omega (arith, wrote-next w fits) in
      when_clear (writable bytes (length buffer)) bytes buffer n after (simp (le-ltb (length buffer) (length bytes) h)) e
      (wrote_is w fits ∙ ap (λ (k : ℕ). bytes ++ drop k buffer) e)

-- bounded bytes, measured by a write that is not kept
module _ (bytes : List ℕ) (need : ℕ) {l o : List ℕ} (measured : Wrote l 0 bytes o need) (bounded : length bytes ≤ greatest) where
  pub need_is : need ≡ length bytes
  need_is = omega (arith, measured.place)

  module _ (buffer : List ℕ) where
    pub refused : length buffer < need
        → (Err Refusal.OutputShort ≡ written (writable bytes (length buffer)) bytes) × (buffer ≡ buffer_after (writable bytes (length buffer)) bytes buffer)
    refused h = no_room bytes buffer (omega (arith, need_is))

    pub accepted : (after : List ℕ) (n : ℕ) → need ≤ length buffer → Wrote buffer 0 bytes after n
        → (Ok n ≡ written (writable bytes (length buffer)) bytes) × (after ≡ buffer_after (writable bytes (length buffer)) bytes buffer)
    accepted after n h w = enough_room bytes buffer after n (omega (arith, need_is)) w
