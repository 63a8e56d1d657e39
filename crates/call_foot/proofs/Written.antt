-- The foot of a statement that is accepted is that of its holding, since a statement carries it; and it is short.
use Rattle.std.specs.Prelude.{Ok}
use Rattle.laws.proofs.{ℕ, ◌≤◌, true, ◌≡◌, sym, ap, ◌∙◌, List, length}
use Rattle.refusals.specs.{Verdict}
use Rattle.statement_carried.specs.{carried, limits}
use Rattle.statement.specs.{Read, read_of}
use Rattle.statement.proofs.Accepted.{read-accepted, read-holding}
use Rattle.statement_pass.specs.{Passed, passed_over}
use Rattle.book_foot.specs.{units_text, all_carried, foot_of, most_for_foot}
use Rattle.book_foot.proofs.Carried.{carried_footed}
use Rattle.book_foot.proofs.Feet.{foot_stands, foot_few}
use Rattle.call_foot.specs.{foot_bytes}

module _ (s : List ℕ) where
  module _ (clear : (read_of s).verdict ≡ Ok tt) where
    footed : all_carried (read_of s).holding ≡ true
    footed = carried_footed _ (ap (λ (r : Read). carried r.holding) (read-holding limits s clear) ∙ (read-accepted limits s clear).carries)

    pub foot_read : foot_of (read_of s).holding ≡ foot_bytes s
    unfolding foot_bytes
    foot_read = sym (foot_stands _ footed)

    pub foot_at_most : length (foot_bytes s) ≤ most_for_foot
    unfolding foot_bytes
    foot_at_most = foot_few _ footed

  -- what the pass over the statement finds
  module _ (passed : Passed) (p : passed ≡ passed_over s 0) where
    pub verdict_passed : passed.verdict ≡ (read_of s).verdict
    unfolding passed_over
    verdict_passed = ap (λ (x : Passed). x.verdict) p

    pub units_passed : units_text passed.units ≡ foot_bytes s
    unfolding passed_over foot_bytes
    units_passed = ap (λ (x : Passed). units_text x.units) p
