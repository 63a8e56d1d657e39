-- The bytes that came are written as they are: besides them, a changed statement and its report are as long as with none of them.
use Rattle.std.specs.Prelude.{Ok, Err}
use Rattle.laws.proofs.{ℕ, ◌+◌, ◌-◌, ◌≤◌, ◌≡◌, sym, ◌∙◌, true, false, List, [], arith, ⊎_elim, le-leb, lt-leb, leb-true, leb-false, leb, length, length-append}
use Rattle.laws.proofs.Order.{below_or_not}
use Rattle.refusals.specs.{written, buffer_after, Refusal}
use Rattle.holding.specs.{Area}
use Rattle.step_outcome.specs.{Report}
use Rattle.statement_format.specs.{joined}
use Rattle.statement_field.specs.{Put}
use Rattle.statement_write.specs.{writable}
use Rattle.statement_write.proofs.Writable.{no_room, enough_room, need_is}
use Rattle.call_output.specs.{changed_text, changed_bytes, changed_width}

-- three parts have room where the second and the third have, after what is before them
pub room-left : (room written before behind : ℕ) → written ≤ room → before ≤ room - written
    → leb behind (room - written - before) ≡ leb (written + before + behind) room
room-left room written before behind h k =
    ⊎_elim
    (λ over. lt-leb behind (room - written - before) (omega arith) ∙ sym (lt-leb (written + before + behind) room over))
    (λ fits. le-leb behind (room - written - before) (omega arith) ∙ sym (le-leb (written + before + behind) room fits))
    (below_or_not room (written + before + behind))

module _ (count : ℕ) (before : List ℕ) (area : Area) (behind : List ℕ) (report : Report) where
  changed-length : length (changed_bytes count before area behind report) ≡ length (changed_bytes count [] area [] report) + length before + length behind
  unfolding changed_bytes changed_text joined
  changed-length = simp length-append (omega arith)

  abbrev bytes : List ℕ
  bytes = changed_bytes count before area behind report

  module _ {out after : List ℕ} {n : ℕ} (put : Put (changed_width + length before + length behind) out 0 bytes after n) where
    pub unmeasured : leb (changed_width + length before + length behind) (length out) ≡ true
        → (Ok n ≡ written (writable bytes (length out)) bytes) × (after ≡ buffer_after (writable bytes (length out)) bytes out)
    unmeasured e = enough_room bytes out after n (omega (arith, put.few, leb-true (changed_width + length before + length behind) (length out) e)) put.wrote

  -- measured with none of the bytes that came
  module _ {unkept left : List ℕ} {width : ℕ} (measured : Put (changed_width + 0 + 0) unkept 0 (changed_bytes count [] area [] report) left width) where
    width_is : width ≡ length (changed_bytes count [] area [] report)
    width_is = need_is (changed_bytes count [] area [] report) width measured.wrote (omega (arith, measured.few))

    pub fits : (out after : List ℕ) (n : ℕ) → Put (changed_width + length before + length behind) out 0 bytes after n
        → leb (width + length before + length behind) (length out) ≡ true
        → (Ok n ≡ written (writable bytes (length out)) bytes) × (after ≡ buffer_after (writable bytes (length out)) bytes out)
    fits out after n put e =
        enough_room bytes out after n
        (omega (arith, width_is, changed-length, leb-true (width + length before + length behind) (length out) e)) put.wrote

    pub short : (out : List ℕ) → leb (width + length before + length behind) (length out) ≡ false
        → (Err Refusal.OutputShort ≡ written (writable bytes (length out)) bytes) × (out ≡ buffer_after (writable bytes (length out)) bytes out)
    short out e = no_room bytes out (omega (arith, width_is, changed-length, leb-false (width + length before + length behind) (length out) e))
