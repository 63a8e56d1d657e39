-- What a line of a book does to the holding, by cases: it stays, an area more stands at the end, or one area that stands is moved, by what is reported of it.
-- A refused line and T leave the holding; an opening places its area behind those that stand; and every other act puts the area that it found back at its
-- place.
use Rattle.std.specs.Prelude.{Ok, Err, Some, None, Option}
use Rattle.laws.proofs.{ℕ, ◌+◌, ◌<◌, true, ◌≡◌, refl, sym, List, [], ◌∷◌, ◌++◌, add-one, arith, not-false, leb-false, length, get_or, set, length-take, get_or-take}
use Rattle.laws.proofs.Elements.{clash}
use lib.Seq.{take-set-lt, take-suc-set}
use Rattle.refusals.specs.{Case, smallest, Verdict}
use Rattle.refusals.proofs.Laws.{ruled_out}
use Rattle.schedules.specs.{schedule6}
use Rattle.line_entry.specs.{Act, on, Entry, Parsed}
use Rattle.line.specs.{entry_of}
use Rattle.holding.specs.{Area, Holding, most_areas, areas_of, empty_area, opened_area, find_area}
use Rattle.holding_look.specs.{known, area_at, balance_of, looked_up, with_sub}
use Rattle.step_outcome.specs.{Report, Outcome, accepted, answered, area_cases, placed}
use Rattle.step_open.specs.{open_cases, opened}
use Rattle.step_add.specs.{add_cases, added_area, added}
use Rattle.step_clear.specs.{clear_cases, cleared_area, cleared}
use Rattle.step_plant.specs.{plant_cases, planted_area, planted}
use Rattle.step_file.specs.{file_cases, filed_area, return_of, filed}
use Rattle.step_withdraw.specs.{withdraw_cases, withdrawn_area, withdrawn}
use Rattle.step.specs.{acted, applied}
use Rattle.book_listing.specs.{column_taken, entry_taken, parsed_taken, line_taken}
use Rattle.theorem_keeping.specs.{Kept}
use Rattle.theorem_keeping.proofs.Areas.{area_number, AreasKept, kept-areas}
use Rattle.theorem_keeping.proofs.Register.{unknown, found_inside}
use Rattle.theorem_foot.proofs.Reported.{received_in, due_in, balance_in, Names}

-- how many sub-areas an act adds
unfoldable pub subs_added : Act → ℕ
subs_added (Act.Open opening) = 0
subs_added (Act.Add sub land forest year) = 1
subs_added (Act.Clear sub year) = 0
subs_added (Act.Plant sub forest year) = 0
subs_added (Act.File last) = 0
subs_added Act.Withdraw = 0

-- an area before and after an act, by what is reported
pub record Moved (act : Act) (report : Report) (was is : Area) : Type 0 where
  pub number : is.number ≡ was.number
  pub names : Names report was.number
  pub received : is.received ≡ was.received + received_in report
  pub surrendered : is.surrendered ≡ was.surrendered + due_in report
  pub balance : balance_of is ≡ balance_in report (balance_of was)
  pub subs : is.count ≡ was.count + subs_added act

unreported : (act : Act) (was is : Area) → is.number ≡ was.number → is.received ≡ was.received → is.surrendered ≡ was.surrendered
    → is.count ≡ was.count + subs_added act → Moved act Report.Nothing was is
unfolding received_in due_in balance_in Names
unreported act was is n r s c = record { number = n; names = tt; received = omega arith; surrendered = omega arith; balance = cc; subs = c }

-- an entry moves one area that stands
pub record Moves (before : Holding) (read : Parsed) (after : Holding) (report : Report) : Type 0 where
  pub number : ℕ
  pub act : Act
  pub entry : read ≡ Ok (Entry.On (on number act))
  pub place : ℕ
  pub found : find_area before number ≡ Some place
  pub inside : place < length (areas_of before)
  pub area : Area
  pub standing : areas_of after ≡ set (areas_of before) place area
  pub moved : Moved act report (get_or (areas_of before) place empty_area) area

-- an entry opens an area, and nothing is reported
pub record Opens (before : Holding) (read : Parsed) (after : Holding) (report : Report) : Type 0 where
  pub number : ℕ
  pub opening : ℕ
  pub entry : read ≡ Ok (Entry.On (on number (Act.Open opening)))
  pub unknown : find_area before number ≡ None
  pub standing : areas_of after ≡ areas_of before ++ (opened_area number opening ∷ [])
  pub quiet : report ≡ Report.Nothing

-- what a line that is read so does to a holding
pub data Does (holding : Holding) (read : Parsed) (outcome : Outcome) : Type 0 where
  Staying : placed holding outcome ≡ holding → outcome.report ≡ Report.Nothing → Does holding read outcome
  Opening : outcome.verdict ≡ Ok tt → Opens holding read (placed holding outcome) outcome.report → Does holding read outcome
  Moving : outcome.verdict ≡ Ok tt → Moves holding read (placed holding outcome) outcome.report → Does holding read outcome

module _ (holding : Holding) where
  -- ---- an act on an area that was found

  module _ (n : ℕ) (act : Act) (report : Report) (after : Area) where
    abbrev changed : Option ℕ → Outcome
    changed found = accepted report found holding.count after

    found_does : (found : Option ℕ) → find_area holding n ≡ found → known found ≡ true → Moved act report (area_at holding found) after
        → Does holding (Ok (Entry.On (on n act))) (changed found)
    unfolding find_area area_at placed
    found_does None e k m = clash (sym k)
    found_does (Some i) e k m =
        let inside = found_inside area_number n i holding.count holding.areas e in
        Does.Moving refl (record {
          number = n;
          act = act;
          entry = refl;
          place = i;
          found = e;
          inside = omega (arith, inside, length-take holding.count holding.areas);
          area = after;
          standing = take-set-lt holding.count holding.areas i after inside.0;
          moved = rw (get_or-take holding.count holding.areas i empty_area inside.0) m;
        })

    change_does : (v : Verdict) → (v ≡ Ok tt → known (find_area holding n) ≡ true) → Moved act report (area_at holding (find_area holding n)) after
        → Does holding (Ok (Entry.On (on n act))) (answered v (changed (find_area holding n)))
    unfolding answered placed
    change_does (Err r) k m = Does.Staying refl refl
    change_does (Ok _) k m = found_does (find_area holding n) refl (k refl) m

  -- ---- an opening

  module _ (kept : AreasKept holding) (n opening : ℕ) where
    abbrev cases : List Case
    cases = open_cases (looked_up holding n) opening

    opening_does : (v : Verdict) → smallest cases ≡ v
        → Does holding (Ok (Entry.On (on n (Act.Open opening))))
        (answered v (accepted Report.Nothing (Some holding.count) (holding.count + 1) (opened_area n opening)))
    unfolding answered placed open_cases
    opening_does (Err r) e = Does.Staying refl refl
    opening_does (Ok _) e =
        let out = ruled_out cases e in
        let room : holding.count < most_areas = leb-false most_areas holding.count (out 4) in
        Does.Opening refl (record {
          number = n;
          opening = opening;
          entry = refl;
          unknown = unknown (find_area holding n) (out 3);
          standing = rw add-one (take-suc-set holding.areas holding.count (opened_area n opening) (omega (arith, room, kept.tidy.long)));
          quiet = refl;
        })

  -- ---- every act, every entry and every line

  module _ (kept : AreasKept holding) (own : List ℕ) where
    acted_does : (n : ℕ) (act : Act) → Does holding (Ok (Entry.On (on n act))) (acted own schedule6 (looked_up holding n) act)
    unfolding opened added add_cases added_area cleared clear_cases cleared_area planted plant_cases planted_area with_sub filed file_cases filed_area return_of withdrawn withdraw_cases withdrawn_area area_cases received_in due_in balance_in Names subs_added
    acted_does n (Act.Open opening) = opening_does kept n opening _ refl
    acted_does n (Act.Add sub land forest year) = change_does n _ _ _ _ (λ e. not-false _ (ruled_out _ e 4)) (unreported _ _ _ refl refl refl refl)
    acted_does n (Act.Clear sub year) = change_does n _ _ _ _ (λ e. not-false _ (ruled_out _ e 3)) (unreported _ _ _ refl refl refl (omega arith))
    acted_does n (Act.Plant sub forest year) = change_does n _ _ _ _ (λ e. not-false _ (ruled_out _ e 4)) (unreported _ _ _ refl refl refl (omega arith))
    acted_does n (Act.File last) = change_does n _ _ _ _ (λ e. not-false _ (ruled_out _ e 3)) (record {
      number = refl;
      names = refl;
      received = refl;
      surrendered = refl;
      balance = refl;
      subs = omega arith;
    })
    acted_does n Act.Withdraw = change_does n _ _ _ _ (λ e. not-false _ (ruled_out _ e 2)) (record {
      number = refl;
      names = refl;
      received = omega arith;
      surrendered = refl;
      balance = omega arith;
      subs = omega arith;
    })

    column_does : (read : Parsed) (v : Verdict) → Does holding read (answered v (column_taken holding.count))
    unfolding answered placed
    column_does read (Ok _) = Does.Staying refl refl
    column_does read (Err r) = Does.Staying refl refl

    parsed_does : (line : List ℕ) (read : Parsed) → Does holding read (parsed_taken own holding line read)
    unfolding parsed_taken entry_taken applied placed
    parsed_does line (Ok (Entry.Column column)) = column_does _ _
    parsed_does line (Ok (Entry.On on)) = acted_does on.area on.act
    parsed_does line (Err r) = Does.Staying refl refl

-- THE CASE LAW: what a line does to a holding that is kept
pub line_does : (own : List ℕ) (holding : Holding) → Kept holding → (line : List ℕ) → Does holding (entry_of line) (line_taken own holding line)
unfolding line_taken
line_does own holding kept line = parsed_does holding (kept-areas holding kept) own line (entry_of line)
