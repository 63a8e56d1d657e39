-- The two claims of the request, for any narrower limits and for those of document 01. A holding laid out in other places has the same statement; so a
-- statement that narrower limits accept is that of a holding which the limits in force carry, and is read as it.
use Rattle.std.specs.Prelude.{Ok}
use Rattle.laws.proofs.{ℕ, ◌≤◌, ◌≡◌, sym, ap, ◌∙◌, List, arith}
use Rattle.refusals.specs.{Verdict}
use Rattle.holding.specs.{Area, Holding, most_subs, areas_of}
use Rattle.statement_carried.specs.{Limits, first_limits, limits}
use Rattle.statement_format.specs.{statement_of}
use Rattle.statement.specs.{read_within, read_of}
use Rattle.theorem_keeping.specs.{TidyAreaIn, KeptWithin, Kept}
use Rattle.theorem_keeping.proofs.Lists.{each_map, each_both}
use Rattle.theorem_round_trips.proofs.Trips.{read_writes, read_kept, accepts_that}
use Rattle.theorem_limits.specs.{Narrower, area_in_places, holding_in_places, NoneAbove, WrittenAsBefore, StillRead}
use Rattle.theorem_limits.proofs.Laying.{Placed, area-tidy, areas_stand, same-statement, places_tidy}
use Rattle.theorem_limits.proofs.Widening.{each_placed, kept_wider}

within_itself : Narrower limits limits
within_itself = record { subs = omega arith; stock = omega arith; received = omega arith }

-- "A holding with no area above 16 sub-areas is written just as before": any holding that is carried, and any number of sub-areas
pub written_as_before : (most : Limits) (holding : Holding) → Kept holding → NoneAbove most.subs holding → WrittenAsBefore most holding
written_as_before most holding kept few =
    let placed = each_placed limits limits within_itself holding kept in
    record {
      tidy = record {
        areas = places_tidy most.subs holding most_subs kept.tidy.areas;
        subs =
            rw (areas_stand most.subs holding)
            (each_map (TidyAreaIn most.subs) (area_in_places most.subs) (areas_of holding)
            (each_both Placed (λ (area : Area). area.count ≤ most.subs) _ (λ area p q. area-tidy most.subs area p q) (areas_of holding) placed few));
      };
      same = same-statement most.subs holding placed;
    }

-- "each old statement is still read": the statement of a holding that narrower limits carry, as that holding
pub kept_still_read : (few : Limits) → Narrower few limits → (holding : Holding) → KeptWithin few holding
    → read_of (statement_of holding) ≡ record { verdict = (Ok tt); holding = holding_in_places most_subs holding }
kept_still_read few narrower holding kept =
    accepts_that (statement_of holding) (holding_in_places most_subs holding) (kept_wider few limits narrower holding kept)
    (same-statement most_subs holding (each_placed few limits narrower holding kept))

-- and so whatever a reader under narrower limits accepts, as what it reads
pub still_read : (few : Limits) → Narrower few limits → (s : List ℕ) → StillRead few limits s
still_read few narrower s clear =
    sym (ap read_of (read_writes few s clear)) ∙ kept_still_read few narrower (read_within few s).holding (read_kept few s clear)

-- document 01's are
first_narrower : Narrower first_limits limits
first_narrower = record { subs = omega arith; stock = omega arith; received = omega arith }

pub first_still_read : (s : List ℕ) → StillRead first_limits limits s
first_still_read = still_read first_limits first_narrower
