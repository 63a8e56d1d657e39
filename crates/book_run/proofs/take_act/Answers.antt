-- `book_run::take_act` meets its contract: the area that it looks up is the one that the act names.
use Rattle.std.specs.Prelude.{Ok}
use Rattle.laws.proofs.{◌≡◌, refl, ap, ◌∙◌, arith}
use Rattle.holding.specs.{Area}
use Rattle.holding_look.specs.{Looked, area_at, looked_up}
use Rattle.holding_look.proofs.Laws.{area_here, area-out, area_nowhere}
use Rattle.step_outcome.specs.{Outcome, placed}
use Rattle.step.specs.{acted, applied}
use Rattle.book_find.proofs.Naming.{looked_for_lem, looked_up_lem}
use Rattle.line_entry.specs.{Entry}
use Rattle.book_run.proofs.Rows.{holding_of}
use Rattle.book_run.proofs.take_act.Goals as goal
use Rattle.book_run.proofs.take_act.Goals.{in-Some+then-k-lt-MOST_AREAS, in-Some+else-k-lt-MOST_AREAS, in_default}

pub returns : goal.returns
unfolding applied
returns c =
    let a = c.args in
    let holding = holding_of a.standing.now a.areas.now in
    let names = c.find-names.result in
    let with : Area → Looked = λ area. record { number = names.number; count = a.standing.now; found = names.found; area = area } in
    let looks : c.match-found.looked ≡ with (area_at holding names.found) =
    elim c.match-found.branch [
      | in-Some+then-k-lt-MOST_AREAS w ↦
          w.looked-is ∙ ap with (area_here holding _ _ _ w.in-Some.is (omega (arith, w.if-k-lt-MOST_AREAS.true, c.told-areas)))
      | in-Some+else-k-lt-MOST_AREAS w ↦
          w.looked-is ∙ ap with (c.empty_area.ensures ∙ area-out holding _ _ w.in-Some.is (omega (arith, w.if-k-lt-MOST_AREAS.false, c.told-areas)))
      | in_default w ↦ w.looked-is ∙ ap with (c.empty_area.ensures ∙ area_nowhere holding _ w.in_default.is)
    ] in
    let named : c.match-found.looked ≡ looked_up holding a.on.area =
    looks
    ∙ looked_for_lem holding a.numbers.now (Ok (Entry.On a.on)) names _ _ c.find-names.ensures refl refl
    ∙ looked_up_lem holding a.numbers.now c.requires a.on in
    let comes : c.apply_to-outcome.result ≡ applied a.own.now a.default.now holding a.on =
    c.apply_to-outcome.ensures ∙ ap (λ (x : Looked). acted a.own.now a.default.now x a.on.act) named in
    record {
      value = ap (λ (x : Outcome). x.verdict) comes;
      areas_after = c.place.ensures.areas_after ∙ ap (placed holding) comes;
      numbers_after = c.place.ensures.numbers_after;
    }
