-- The clearing that counts, found in order: from nine years on its own; under nine, each earlier clearing within the window is set against the oldest so far.
use Rattle.laws.proofs.{ℕ, ◌≤◌, ◌<◌, cond, ◌≡◌, sym, List, le-leb, lt-leb}
use mathlib.Core.List.{foldl}
use Rattle.laws.proofs.Elements.{fold-keep}
use Rattle.land_clearings.specs.{Clearing, age_of, within, elder, counting_of}

-- one clearing more, passed over outside the window
abbrev pub next : Clearing → Clearing → Clearing → Clearing
next own best c = cond (within own c) (elder best c) best

module _ (own : Clearing) (earlier : List Clearing) (age : ℕ) (e : age ≡ age_of own) where
  pub own_counts : 9 ≤ age → own ≡ counting_of own earlier
  unfolding counting_of
  own_counts h = simp (← e, le-leb 9 age h)

  pub oldest_counts : age < 9 → foldl (next own) own earlier ≡ counting_of own earlier
  unfolding counting_of
  oldest_counts h = simp (← e, lt-leb 9 age h) (sym (fold-keep (within own) elder own earlier))
