-- The bytes of a table, two a turn as the loop goes.
use Rattle.std.specs.Prelude.{Ok, Err}
use Rattle.laws.proofs.{ℕ, suc, ◌+◌, ◌*◌, ◌/◌, ◌%◌, ◌≤◌, ◌<◌, ◌≡◌, refl, sym, ap, ◌∙◌, List, [], ◌∷◌, add-one, arith, lt-ltb, le-ltb, length, get_or, set, drop, drop_of_length-le, drop-cons, sets}
use Rattle.laws.proofs.Stores.{stored-in_front}
use Rattle.refusals.specs.{weighed, weigh_all, smallest, written, buffer_after, Refusal}
use Rattle.refusals.proofs.Answers.{when_turned, when_clear}
use Rattle.statement_write.specs.{writable}
use Rattle.call_output.specs.{table_bytes}

pub bytes_length : (numbers : List ℕ) → length (table_bytes numbers) ≡ 2 * length numbers
unfolding table_bytes
bytes_length [] = refl
bytes_length (n ∷ numbers) = omega (arith, bytes_length numbers)

module _ (numbers : List ℕ) (i : ℕ) where
  -- a turn: the bytes stored and those to come are those to come before
  pub bytes_stored : (out : List ℕ) → i < length numbers
      → sets (set (set out (2 * i) (get_or numbers i 0 % 256)) (2 * i + 1) (get_or numbers i 0 / 256)) (2 * (i + 1)) (table_bytes (drop (i + 1) numbers))
      ≡ sets out (2 * i) (table_bytes (drop i numbers))
  unfolding table_bytes
  bytes_stored out h =
      let two : 2 * (i + 1) ≡ suc (suc (2 * i)) = omega arith in
      rw (two, add-one (2 * i), add-one i) (sym (ap (λ (l : List ℕ). sets out (2 * i) (table_bytes l)) (drop-cons numbers i 0 h)))

  pub bytes_end : (out : List ℕ) → length numbers ≤ i → out ≡ sets out (2 * i) (table_bytes (drop i numbers))
  unfolding table_bytes
  bytes_end out h = rw (drop_of_length-le numbers h)

-- by the room for them
module _ (numbers out : List ℕ) where
  pub no_room : length out / 2 < length numbers
      → (Err Refusal.OutputShort ≡ written (writable (table_bytes numbers) (length out)) (table_bytes numbers))
      × (out ≡ buffer_after (writable (table_bytes numbers) (length out)) (table_bytes numbers) out)
  unfolding writable smallest weigh_all weighed
  no_room h =
      when_turned (writable (table_bytes numbers) (length out)) (table_bytes numbers) out Refusal.OutputShort
      (simp (lt-ltb (length out) (length (table_bytes numbers)) (omega (arith, bytes_length numbers))))

  pub enough_room : length numbers ≤ length out / 2 → (after : List ℕ) → after ≡ sets out 0 (table_bytes numbers)
      → (Ok (2 * length numbers) ≡ written (writable (table_bytes numbers) (length out)) (table_bytes numbers))
      × (after ≡ buffer_after (writable (table_bytes numbers) (length out)) (table_bytes numbers) out)
  unfolding writable smallest weigh_all weighed
  enough_room h after e =
      let fits : length (table_bytes numbers) ≤ length out = omega (arith, bytes_length numbers) in
      when_clear (writable (table_bytes numbers) (length out)) (table_bytes numbers) out (2 * length numbers) after
      (simp (le-ltb (length out) (length (table_bytes numbers)) fits)) (sym (bytes_length numbers)) (e ∙ stored-in_front (table_bytes numbers) out fits)
