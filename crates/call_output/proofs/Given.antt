-- A refusal answers its number and leaves the output; a clear verdict gives what was written.
use Rattle.std.specs.Prelude.{Ok, Err}
use Rattle.laws.proofs.{ℕ, ◌≡◌, subst, List, length}
use Rattle.refusals.specs.{Refusal, Verdict, weighed, weigh_all, smallest, Written, written, buffer_after}
use Rattle.statement_write.specs.{writable}
use Rattle.call_output.specs.{with_room, Gives}

module _ (v : Verdict) (bytes buffer : List ℕ) where
  pub gives_refused : (r : Refusal) → v ≡ Err r → Gives v bytes buffer (Err r) buffer
  unfolding with_room weighed written buffer_after
  gives_refused r e = record { told = rw e; left = rw e }

  pub gives_written : (answer : Written) (after : List ℕ) → v ≡ Ok tt → (answer ≡ written (writable bytes (length buffer)) bytes)
      × (after ≡ buffer_after (writable bytes (length buffer)) bytes buffer) → Gives v bytes buffer answer after
  unfolding with_room writable smallest weigh_all
  gives_written answer after e g = record { told = rw e g.0; left = rw e g.1 }

pub gives_as : {v w : Verdict} {xs ys buffer : List ℕ} {answer : Written} {after : List ℕ} → v ≡ w → xs ≡ ys → Gives v xs buffer answer after
    → Gives w ys buffer answer after
gives_as {v} {w} {xs} {ys} {buffer} {answer} {after} e f g =
    subst (λ (x : Verdict). Gives x ys buffer answer after) e (subst (λ (l : List ℕ). Gives v l buffer answer after) f g)
