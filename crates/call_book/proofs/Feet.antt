-- The foot of a statement that is accepted, where there is room for it: what the call writes in front is all of it.
use Rattle.std.specs.Prelude.{Ok}
use Rattle.laws.proofs.{ℕ, ◌≤◌, ◌≡◌, List, le-ltb, length, drop, take-append_seam}
use Rattle.refusals.specs.{Verdict, weighed, buffer_after}
use Rattle.statement.specs.{read_of}
use Rattle.call_output.specs.{with_room}
use Rattle.call_foot.specs.{foot_bytes, foot_weighed, foot_answer, foot_output}
use Rattle.call_book.specs.{foot_in}

module _ (s out : List ℕ) (clear : (read_of s).verdict ≡ Ok tt) (room : length (foot_bytes s) ≤ length out) where
  weighed_clear : foot_weighed s (length out) ≡ Ok tt
  unfolding foot_weighed with_room weighed
  weighed_clear = simp (clear, le-ltb (length out) (length (foot_bytes s)) room)

  pub foot_shown : foot_in (foot_output s out) (foot_answer s (length out)) ≡ foot_bytes s
  unfolding foot_output foot_answer buffer_after
  foot_shown = rw weighed_clear (take-append_seam (foot_bytes s) (drop (length (foot_bytes s)) out))
