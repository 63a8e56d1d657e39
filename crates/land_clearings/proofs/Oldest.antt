-- Under nine years the clearing that counts is the oldest: it is the parcel's own or one within the window, and no other of these is older, or as old and cleared later.
use Rattle.laws.proofs.{◌≤◌, ◌<◌, Bool, true, false, cond, inl, inr, ◌≡◌, refl, List, ◌∷◌, arith, ltb-true, ltb-false, lt-leb, ltb}
use Rattle.laws.specs.{keep}
use Rattle.laws.proofs.Choosing.{Choice, Best, chosen_best, outranks_true, outranks_false}
use Rattle.land_clearings.specs.{Clearing, age_of, within, older, elder, counting_of}

-- trees at least as old as another's, and cleared no earlier where they are as old
pub record Ahead (c d : Clearing) : Type 0 where
  pub oldest : age_of d ≤ age_of c
  pub latest : age_of d ≡ age_of c → d.cleared ≤ c.cleared

self_ahead : (c : Clearing) → Ahead c c
self_ahead c = record { oldest = omega arith; latest = λ e. omega arith }

ahead_carries : (b c d : Clearing) → Ahead b c → Ahead c d → Ahead b d
ahead_carries b c d p q = record {
  oldest = omega (arith, p.oldest, q.oldest);
  latest = λ e. omega (arith, p.latest (omega (arith, p.oldest, q.oldest)), q.latest (omega (arith, p.oldest, q.oldest)));
}

elder_choice : (best c : Clearing) → Choice Ahead best c (elder best c)
unfolding elder
elder_choice best c = go (older c best) refl
  where
    go : (b : Bool) → older c best ≡ b → Choice Ahead best c (cond b c best)
    go true e =
        let o = outranks_true (age_of c) (age_of best) (ltb best.cleared c.cleared) e in
        record {
          one = inr refl;
          over_best = record { oldest = o.0; latest = λ z. omega (arith, ltb-true best.cleared c.cleared (o.1 z)) };
          over_other = self_ahead c;
        }
    go false e =
        let o = outranks_false (age_of c) (age_of best) (ltb best.cleared c.cleared) e in
        record {
          one = inl refl;
          over_best = self_ahead best;
          over_other = record { oldest = o.0; latest = λ z. ltb-false best.cleared c.cleared (o.1 z) };
        }

pub counting_oldest : (own : Clearing) (earlier : List Clearing) → age_of own < 9 → Best Ahead (own ∷ keep (within own) earlier) (counting_of own earlier)
unfolding counting_of
counting_oldest own earlier h = rw (lt-leb 9 (age_of own) h) (chosen_best Ahead (record { self = self_ahead; carries = ahead_carries }) elder elder_choice own (keep (within own) earlier))
