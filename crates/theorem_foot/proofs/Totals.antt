-- What the areas that stand come to, and what is shown of it. A line that leaves the holding, or opens an area without units, reports nothing and moves no
-- total; one that moves an area moves the totals by what it reports. So by induction over the lines of a book: received and surrendered are what is shown,
-- and each number's balance is the last one shown.
use Rattle.std.specs.Prelude.{Ok, Err}
use Rattle.laws.proofs.{ℕ, ◌+◌, Bool, true, false, cond, ◌≡◌, refl, sym, ap, subst, ◌∙◌, List, [], ◌∷◌, ◌++◌, arith, eqb, eqb-true, eq-eqb, get_or}
use Rattle.laws.specs.{distinct, sum_by}
use mathlib.Core.List.{foldl, foldl-append}
use Rattle.refusals.specs.{Verdict}
use Rattle.line_entry.specs.{Parsed}
use Rattle.line.specs.{entry_of}
use Rattle.holding.specs.{Area, Holding, areas_of, empty_area, opened_area}
use Rattle.holding_look.specs.{balance_of, units_received, units_surrendered}
use Rattle.step_outcome.specs.{Report, Outcome, placed}
use Rattle.book_listing.specs.{lines_of, line_taken, Run, next, printed_for, printed, run_from, printed_from}
use Rattle.book_room.proofs.Runs.{RunKept, next-kept}
use Rattle.book_foot.proofs.Carried.{over_all}
use Rattle.theorem_keeping.specs.{Kept}
use Rattle.theorem_keeping.proofs.Areas.{area_number, kept-areas}
use Rattle.theorem_foot.specs.{received_shown, due_shown, balance_after}
use Rattle.theorem_foot.proofs.Reported.{received_in, due_in, balance_in, balance_of_in, balance-named, balance_other}
use Rattle.theorem_foot.proofs.Shown.{TextShows, report_shows, refusal_shows}
use Rattle.theorem_foot.proofs.Cases.{Moves, Opens, Does, line_does}
use Rattle.theorem_foot.proofs.Sums.{sum-append, sum_more, sum_put, borne, borne_once}

-- the balances of the areas that bear the number n
abbrev pub balance_for : ℕ → Holding → ℕ
balance_for n holding = over_all (borne area_number balance_of n) holding

-- ---- by what is reported

record Told (before after : Holding) (report : Report) : Type 0 where
  received : over_all units_received after ≡ over_all units_received before + received_in report
  surrendered : over_all units_surrendered after ≡ over_all units_surrendered before + due_in report
  balance : (n : ℕ) → balance_for n after ≡ balance_of_in n report (balance_for n before)

module _ (before after : Holding) where
  opened-told : (read : Parsed) (report : Report) → Opens before read after report → Told before after report
  unfolding received_in due_in balance_of_in
  opened-told read report opens = rw opens.quiet (record {
    received = more units_received ∙ (omega arith);
    surrendered = more units_surrendered ∙ (omega arith);
    balance = λ n. more (borne area_number balance_of n) ∙ none (eqb opens.number n) _;
  })
    where
      more : (f : Area → ℕ) → over_all f after ≡ over_all f before + f (opened_area opens.number opens.opening)
      more f = ap (sum_by f) opens.standing ∙ sum_more f (areas_of before) (opened_area opens.number opens.opening)

      none : (t : Bool) (sum : ℕ) → sum + cond t 0 0 ≡ sum
      none true sum = omega arith
      none false sum = omega arith

  module _ (read : Parsed) (report : Report) (moves : Moves before read after report) (apart : distinct area_number (areas_of before) ≡ true) where
    abbrev was : Area
    was = get_or (areas_of before) moves.place empty_area

    put : (f : Area → ℕ) → over_all f after + f was ≡ over_all f before + f moves.area
    put f = ap (λ (l : List Area). sum_by f l + f was) moves.standing ∙ sum_put f (areas_of before) moves.place moves.area empty_area moves.inside

    put_borne : (n : ℕ) (t : Bool) → eqb was.number n ≡ t
        → balance_for n after + cond t (balance_of was) 0 ≡ balance_for n before + cond t (balance_of moves.area) 0
    put_borne n t e =
        ap (λ (b : Bool). balance_for n after + cond b (balance_of was) 0) (sym e) ∙ put (borne area_number balance_of n)
        ∙ ap (λ (b : Bool). balance_for n before + cond b (balance_of moves.area) 0) (ap (λ (k : ℕ). eqb k n) moves.moved.number ∙ e)

    -- no other area bears its number
    own-balance : balance_for was.number after ≡ balance_of_in was.number report (balance_for was.number before)
    own-balance =
        let n = was.number in
        let one : balance_for n before ≡ balance_of was = borne_once area_number balance_of (areas_of before) moves.place empty_area apart moves.inside in
        let moved : balance_for n after ≡ balance_of moves.area = omega (arith, put_borne n true (eq-eqb n n refl), one) in
        moved ∙ moves.moved.balance ∙ ap (balance_in report) (sym one) ∙ sym (balance-named n (balance_for n before) report moves.moved.names)

    each_balance : (n : ℕ) (t : Bool) → eqb was.number n ≡ t → balance_for n after ≡ balance_of_in n report (balance_for n before)
    each_balance n true e = subst (λ (k : ℕ). balance_for k after ≡ balance_of_in k report (balance_for k before)) (eqb-true was.number n e) own-balance
    each_balance n false e =
        let same : balance_for n after ≡ balance_for n before = omega (arith, put_borne n false e) in
        same ∙ sym (balance_other n (balance_for n before) report was.number moves.moved.names e)

    moved_told : Told before after report
    moved_told = record {
      received = omega (arith, put units_received, moves.moved.received);
      surrendered = omega (arith, put units_surrendered, moves.moved.surrendered);
      balance = λ n. each_balance n (eqb was.number n) refl;
    }

-- a line, by what it does
does_told : (holding : Holding) → Kept holding → (read : Parsed) (outcome : Outcome) → Does holding read outcome → Told holding (placed holding outcome) outcome.report
unfolding received_in due_in balance_of_in
does_told holding kept read outcome (Does.Staying same quiet) =
    rw (same, quiet) (record { received = omega arith; surrendered = omega arith; balance = λ n. refl })
does_told holding kept read outcome (Does.Opening taken opens) = opened-told holding (placed holding outcome) read outcome.report opens
does_told holding kept read outcome (Does.Moving taken moves) =
    moved_told holding (placed holding outcome) read outcome.report moves (kept-areas holding kept).apart

-- ---- by what is shown

pub record Shows (before after : Holding) (sheet : List (List ℕ)) : Type 0 where
  pub received : over_all units_received after ≡ over_all units_received before + sum_by received_shown sheet
  pub surrendered : over_all units_surrendered after ≡ over_all units_surrendered before + sum_by due_shown sheet
  pub balance : (n : ℕ) → balance_for n after ≡ foldl (balance_after n) (balance_for n before) sheet

shows_then : (before between after : Holding) (above below : List (List ℕ)) → Shows before between above → Shows between after below → Shows before after (above ++ below)
shows_then before between after above below p q = record {
  received = omega (arith, p.received, q.received, sum-append received_shown above below);
  surrendered = omega (arith, p.surrendered, q.surrendered, sum-append due_shown above below);
  balance = λ n.
      q.balance n ∙ ap (λ (b : ℕ). foldl (balance_after n) b below) (p.balance n) ∙ sym (foldl-append (balance_after n) (balance_for n before) above below);
}

-- what is printed for a line shows what it reports: a refused line reports nothing
printed_shows : (number : ℕ) (holding : Holding) (read : Parsed) (outcome : Outcome) → Does holding read outcome → (v : Verdict) → outcome.verdict ≡ v
    → TextShows outcome.report (printed_for number v outcome)
unfolding printed_for
printed_shows number holding read outcome does (Ok _) e = report_shows outcome.report
printed_shows number holding read outcome (Does.Staying same quiet) (Err r) e = rw quiet (refusal_shows number r)
printed_shows number holding read outcome (Does.Opening taken opens) (Err r) e = absurd (let z : ◌≡◌ {A = ℕ} 0 1 = cc in omega arith)
printed_shows number holding read outcome (Does.Moving taken moves) (Err r) e = absurd (let z : ◌≡◌ {A = ℕ} 0 1 = cc in omega arith)

told_shows : (before after : Holding) (report : Report) (text : List ℕ) → Told before after report → (shown : TextShows report text) → Shows before after shown.lines
told_shows before after report text told shown = record {
  received = omega (arith, told.received, shown.received);
  surrendered = omega (arith, told.surrendered, shown.due);
  balance = λ n. told.balance n ∙ sym (shown.balance n (balance_for n before));
}

line_shows : (run : Run) (line : List ℕ) → RunKept run → (after : Holding) (below : List ℕ) → Shows (next run line).holding after (lines_of below)
    → Shows run.holding after (lines_of (printed run line ++ below))
unfolding next printed
line_shows run line kept after below rest =
    let holding = run.holding in
    let outcome = line_taken run.own holding line in
    let does = line_does run.own holding kept.holding line in
    let text = printed_shows (run.accepted + run.refused + 1) holding (entry_of line) outcome does outcome.verdict refl in
    let told = does_told holding kept.holding (entry_of line) outcome does in
    rw (text.whole below)
    (shows_then holding (placed holding outcome) after text.lines (lines_of below) (told_shows holding (placed holding outcome) outcome.report _ told text) rest)

-- from a run that is kept, the totals grow by what the lines print
pub lines_show : (lines : List (List ℕ)) (run : Run) → RunKept run → Shows run.holding (run_from run lines).holding (lines_of (printed_from run lines))
unfolding run_from printed_from lines_of sum_by
lines_show [] run kept = record { received = omega arith; surrendered = omega arith; balance = λ n. refl }
lines_show (line ∷ lines) run kept = line_shows run line kept _ _ (lines_show lines (next run line) (next-kept run line kept))
