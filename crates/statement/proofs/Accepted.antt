-- A statement is accepted just when its bytes are read to their end as a holding that passes the test `carried`; the answer is then that holding. So it
-- is whatever the limits are.
use Rattle.std.specs.Prelude.{Ok, Err}
use Rattle.laws.proofs.{ℕ, ◌<◌, Bool, true, not, ◌&&◌, ◌≡◌, refl, ap, ◌∙◌, List, [], ◌∷◌, lt-ltb, eq-eqb, ltb-true, eqb-true, not-false, eqb, ltb, length}
use Rattle.laws.proofs.Lists.{and_left, and_right}
use Rattle.refusals.specs.{Verdict, ◌⇒◌, weighed, weigh_all, smallest, Refusal}
use Rattle.refusals.proofs.Laws.{ruled_out}
use Rattle.holding.specs.{Holding}
use Rattle.statement_carried.specs.{Limits, carried_within}
use Rattle.statement_parse.specs.{HoldingRead, holding_within}
use Rattle.statement.specs.{acceptable_within, read_if, read_within}

pub record Accepted (most : Limits) (s : List ℕ) (read : HoldingRead) : Type 0 where
  pub started : 0 < read.next
  pub ended : read.next ≡ length s
  pub carries : carried_within most read.holding ≡ true

clear_read : (verdict : Verdict) (holding : Holding) → (read_if verdict holding).verdict ≡ Ok tt → verdict ≡ Ok tt
clear_read (Ok _) holding e = refl
clear_read (Err refusal) holding e = e

module _ (most : Limits) (s : List ℕ) where
  clear_accepted : (read : HoldingRead) → acceptable_within most s read ≡ Ok tt → Accepted most s read
  unfolding acceptable_within
  clear_accepted read e =
      let begun = ltb 0 read.next in
      let whole = eqb read.next (length s) in
      let kept = carried_within most read.holding in
      let all = not-false _ (ruled_out (not (begun && whole && kept) ⇒ Refusal.CarriedStatement ∷ []) e 0) in
      let bytes = and_left (begun && whole) kept all in
      record {
        started = ltb-true _ _ (and_left begun whole bytes);
        ended = eqb-true _ _ (and_right begun whole bytes);
        carries = and_right (begun && whole) kept all;
      }

  accepted_clear : (read : HoldingRead) → Accepted most s read → acceptable_within most s read ≡ Ok tt
  unfolding acceptable_within smallest weigh_all weighed
  accepted_clear read a = go _ (lt-ltb 0 read.next a.started) _ (eq-eqb read.next (length s) a.ended) _ a.carries
    where
      go : (x : Bool) → x ≡ true → (y : Bool) → y ≡ true → (z : Bool) → z ≡ true
          → smallest (not (x && y && z) ⇒ Refusal.CarriedStatement ∷ []) ≡ Ok tt
      go x hx y hy z hz = rw (hx, hy, hz)

  pub accepted-read : (holding : Holding) → holding_within most.subs s ≡ record { holding = holding; next = length s } → 0 < length s
      → carried_within most holding ≡ true → read_within most s ≡ record { verdict = (Ok tt); holding = holding }
  unfolding read_within
  accepted-read holding e some carries =
      let read : HoldingRead = record { holding = holding; next = length s } in
      ap (λ (r : HoldingRead). read_if (acceptable_within most s r) r.holding) e
      ∙ ap (λ (v : Verdict). read_if v holding) (accepted_clear read (record { started = some; ended = refl; carries = carries }))

  module _ (clear : (read_within most s).verdict ≡ Ok tt) where
    verdict_clear : acceptable_within most s (holding_within most.subs s) ≡ Ok tt
    unfolding read_within
    verdict_clear = clear_read _ _ clear

    pub read-accepted : Accepted most s (holding_within most.subs s)
    read-accepted = clear_accepted (holding_within most.subs s) verdict_clear

    pub read-holding : read_within most s ≡ record { verdict = (Ok tt); holding = (holding_within most.subs s).holding }
    unfolding read_within
    read-holding = ap (λ (v : Verdict). read_if v (holding_within most.subs s).holding) verdict_clear
