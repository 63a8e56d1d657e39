-- What the lines of a book print is whole lines: what stands behind it begins a line of its own, so the sheet above the foot is read off a listing's lines.
use Rattle.std.specs.Prelude.{Ok, Err}
use Rattle.laws.proofs.{ℕ, ◌+◌, ◌≡◌, refl, sym, ap, ◌∙◌, List, [], ◌∷◌, ◌++◌, append_assoc}
use Rattle.refusals.specs.{Verdict}
use Rattle.step_outcome.specs.{Report, Outcome}
use Rattle.book_listing.specs.{lines_of, line_taken, Run, next, printed_for, printed, printed_from}
use Rattle.theorem_foot.proofs.Shown.{TextShows, report_shows, refusal_shows}

-- a text in front of a sheet
in_front_lem : {report : Report} {text : List ℕ} → TextShows report text → (above below : List ℕ) → lines_of (above ++ below) ≡ lines_of above ++ lines_of below
    → lines_of ((text ++ above) ++ below) ≡ lines_of (text ++ above) ++ lines_of below
in_front_lem {report} {text} shows above below e =
    let lines = shows.lines in
    ap lines_of (append_assoc text above below) ∙ shows.whole (above ++ below) ∙ ap (λ (l : List (List ℕ)). lines ++ l) e
    ∙ sym (append_assoc lines (lines_of above) (lines_of below)) ∙ ap (λ (l : List (List ℕ)). l ++ lines_of below) (sym (shows.whole above))

printed-in_front : (number : ℕ) (outcome : Outcome) (v : Verdict) (above below : List ℕ) → lines_of (above ++ below) ≡ lines_of above ++ lines_of below
    → lines_of ((printed_for number v outcome ++ above) ++ below) ≡ lines_of (printed_for number v outcome ++ above) ++ lines_of below
unfolding printed_for
printed-in_front number outcome (Ok _) = in_front_lem (report_shows outcome.report)
printed-in_front number outcome (Err r) = in_front_lem (refusal_shows number r)

pub lines_above : (lines : List (List ℕ)) (run : Run) (below : List ℕ) → lines_of (printed_from run lines ++ below) ≡ lines_of (printed_from run lines) ++ lines_of below
unfolding printed_from printed lines_of
lines_above [] run below = refl
lines_above (line ∷ lines) run below =
    let outcome = line_taken run.own run.holding line in
    printed-in_front (run.accepted + run.refused + 1) outcome outcome.verdict _ below (lines_above lines (next run line) below)
