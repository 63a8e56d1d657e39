-- What a call wrote, with its sign, is what it answers; and it is small: a call that is clear has few bytes, and a refusal's number has two digits.
use Rattle.std.specs.Prelude.{Ok, Err}
use Rattle.laws.proofs.{ℕ, ◌<◌, ◌^◌, ◌≡◌, refl, sym, subst, ap, ◌∙◌, List, arith, ltb, length}
use lib.IntN.{ℤ}
use mir.Syntax.{w64}
use mir.Val.{to_z, of_z}
use Rattle.refusals.specs.{Refusal, Verdict, number_of, Written, written}
use Rattle.refusals.proofs.Laws.{clear_before, number_range}
use Rattle.call_output.specs.{with_room}
use Rattle.call_answer.specs.{answer_of}
use Rattle.engine.specs.{signed, Fitting}
use Rattle.engine.proofs.Signed.{minus_read, plus-read}

signed-written : (v : Verdict) (bytes : List ℕ) → signed (written v bytes) ≡ answer_of v bytes
unfolding written
signed-written (Ok _) bytes = refl
signed-written (Err refusal) bytes = refl

written-fits : (v : Verdict) (bytes : List ℕ) → (v ≡ Ok tt → length bytes < 2 ^ 63) → Fitting (written v bytes)
unfolding written
written-fits (Ok _) bytes few = few refl
written-fits (Err refusal) bytes few = tt

-- read back as it was answered
pub signed-read : (answer : Written) → Fitting answer → to_z w64 (of_z w64 (signed answer)) ≡ signed answer
signed-read (Ok count) fits = plus-read fits
signed-read (Err refusal) fits = let h : number_of refusal < 2 ^ 63 = omega (arith, (number_range refusal).1) in minus_read h

-- under a verdict, with these bytes to write, of which there are few where it is clear
module _ (verdict : Verdict) (bytes : List ℕ) (room : ℕ) (few : verdict ≡ Ok tt → length bytes < 2 ^ 63) (answer : Written)
    (e : answer ≡ written (with_room verdict bytes room) bytes) where
  pub answer_fits : Fitting answer
  unfolding with_room
  answer_fits =
      subst Fitting (sym e)
      (written-fits (with_room verdict bytes room) bytes (λ clear. few (clear_before verdict (ltb room (length bytes)) Refusal.OutputShort clear)))

  pub answer_is_lem : (r : ℤ) → r ≡ signed answer → to_z w64 (of_z w64 r) ≡ answer_of (with_room verdict bytes room) bytes
  answer_is_lem r q = ap (λ (z : ℤ). to_z w64 (of_z w64 z)) q ∙ signed-read answer answer_fits ∙ ap signed e ∙ signed-written (with_room verdict bytes room) bytes
