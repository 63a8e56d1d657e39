-- `statement_pass::pass_areas` meets its contract: each turn passes over one area more.
use Rattle.laws.proofs.{ℕ, ◌+◌, ◌*◌, ◌<◌, ◌≤◌, max, replicate, refl, true, ◌≡◌, inl, inr, arith}
use mir.Syntax.{w64}
use mir.Val.{Fits}
use Rattle.holding.specs.{Area, most_areas}
use Rattle.holding_look.specs.{balance_of, units_received, units_surrendered}
use Rattle.statement_carried.specs.{fields_carried}
use Rattle.statement_carried.proofs.Bounds.{bounds, most_units, units-few}
use Rattle.statement_pass.specs.{Sought}
use Rattle.statement_pass.proofs.Turns.{along_start, kept_all, noted_all, sought_all, place_all, found_here, not_here, along_again, counted_fields, sum-start, sum_all, sum_again}
use Rattle.statement_pass.proofs.pass_areas.Goals as goal
use Rattle.statement_pass.proofs.pass_areas.Goals.{then-kept, else-kept, then-area-number, else-area-number}

-- a sum with the units of an area that counts
units_fit : (area : Area) (sum units i count : ℕ) → fields_carried area ≡ true → i < count → count ≤ most_areas → sum ≤ most_units * i → units ≤ max area.received area.surrendered
    → Fits w64 (sum + units)
units_fit area sum units i count counts less few so_far within = omega (arith, units-few area counts)

pub loop-i-init : goal.loop-i-init
loop-i-init c =
    let a = c.args in (
      rw c.empty_area-named.ensures (along_start a.s.now a.at a.count a.number (replicate most_areas 0) refl),
      sum-start a.s.now a.at a.count a.number units_received,
      sum-start a.s.now a.at a.count a.number units_surrendered,
      sum-start a.s.now a.at a.count a.number balance_of,
    )

pub overflow_add-received : goal.overflow_add-received
overflow_add-received c =
    let area = c.read_area-read.result.area in
    let counts = counted_fields c.loop-i.kept _ area c.area-carried.ensures c.if-kept.true in
    units_fit area _ area.received c.loop-i.i c.args.count counts c.loop-i-test.true c.requires c.loop-i.invariant.1.few (omega arith)

pub overflow_add-surrendered : goal.overflow_add-surrendered
overflow_add-surrendered c =
    let area = c.read_area-read.result.area in
    let counts = counted_fields c.loop-i.kept _ area c.area-carried.ensures c.if-kept.true in
    units_fit area _ area.surrendered c.loop-i.i c.args.count counts c.loop-i-test.true c.requires c.loop-i.invariant.2.few (omega arith)

pub overflow_sub-balance : goal.overflow_sub-balance
overflow_sub-balance c =
    let area = c.read_area-read.result.area in
    let counts = counted_fields c.loop-i.kept _ area c.area-carried.ensures c.if-kept.true in
    (bounds area counts).surrendered

pub overflow_add-balance : goal.overflow_add-balance
overflow_add-balance c =
    let area = c.read_area-read.result.area in
    let counts = counted_fields c.loop-i.kept _ area c.area-carried.ensures c.if-kept.true in
    units_fit area _ (balance_of area) c.loop-i.i c.args.count counts c.loop-i-test.true c.requires c.loop-i.invariant.3.few (omega arith)

pub loop-i-preserved : goal.loop-i-preserved
loop-i-preserved c =
    let l = c.loop-i in
    let a = c.args in
    let read = c.read_area-read in
    let more = c.loop-i-test.true in
    let carried = c.area-carried in
    let along = l.invariant.0 in
    let so_far : Sought = record { found = l.found; area = l.named; from = l.from; to = l.to } in (
      along_again a.s.now a.at a.count a.number l.i l.next more c.requires read.result read.ensures
          carried.result carried.ensures _ _ so_far _ along
          (elim c.if-area-number.branch [
            | then-area-number w ↦ found_here _ _ _ _ l.i _ more _ read.ensures so_far along.looking _ c.is_known-known.ensures w.if-area-number.true _ w.found-is _ w.named-is _ w.from-is _ w.to-is
            | else-area-number w ↦ not_here _ _ _ _ l.i _ more _ read.ensures so_far along.looking _ c.is_known-known.ensures w.if-area-number.false _ (rw (w.found-is, w.named-is, w.from-is, w.to-is))
          ]),
      sum_again _ _ _ a.number units_received _ _ _ _ l.invariant.1 more _ read.ensures _ carried.ensures (λ area. omega arith) _
          (elim c.if-kept.branch [ then-kept w ↦ inl (w.if-kept.true, w.received-is) | else-kept w ↦ inr (w.if-kept.false, w.received-is) ]),
      sum_again _ _ _ a.number units_surrendered _ _ _ _ l.invariant.2 more _ read.ensures _ carried.ensures (λ area. omega arith) _
          (elim c.if-kept.branch [ then-kept w ↦ inl (w.if-kept.true, w.surrendered-is) | else-kept w ↦ inr (w.if-kept.false, w.surrendered-is) ]),
      sum_again _ _ _ a.number balance_of _ _ _ _ l.invariant.3 more _ read.ensures _ carried.ensures (λ area. omega arith) _
          (elim c.if-kept.branch [ then-kept w ↦ inl (w.if-kept.true, w.balance-is) | else-kept w ↦ inr (w.if-kept.false, w.balance-is) ]),
    )

pub returns : goal.returns
returns c =
    let l = c.loop-i in
    let over = c.loop-i-test.false in
    let along = l.invariant.0 in
    record {
      kept = kept_all _ _ _ c.args.number _ _ _ _ _ along over;
      long = along.long;
      numbers = noted_all _ _ _ c.args.number _ _ _ _ _ along over;
      sought = sought_all _ _ _ _ _ _ _ _ _ along over;
      units = λ kept.
          let received = sum_all _ _ _ c.args.number units_received _ _ _ _ l.invariant.1 over kept in
          let surrendered = sum_all _ _ _ c.args.number units_surrendered _ _ _ _ l.invariant.2 over kept in
          let balance = sum_all _ _ _ c.args.number balance_of _ _ _ _ l.invariant.3 over kept in
          simp (received, surrendered, balance);
      next = place_all _ _ _ c.args.number _ _ _ _ _ along over;
    }
