-- What the text of a report shows, read off its one line: the fields are the report's numbers in digits, and the number that digits show is theirs.
-- A line of another letter, as X, shows nothing.
use Rattle.laws.proofs.{ℕ, ◌+◌, ◌-◌, ◌*◌, ◌/◌, ◌%◌, ◌≡◌, refl, ap, ◌∙◌, Bool, true, false, cond, List, [], ◌∷◌, ◌++◌, arith, eqb}
use Rattle.laws.specs.{code, sum_by}
use mathlib.Core.List.{foldl, foldl-append}
use Rattle.text.specs.{digits, field_at}
use Rattle.text.proofs.Digits.{digits_ind, digits_small, digits_step}
use Rattle.refusals.specs.{Refusal}
use Rattle.step_outcome.specs.{Report}
use Rattle.book_print.specs.{report_text, refusal_text}
use Rattle.book_listing.specs.{lines_of}
use Rattle.theorem_foot.specs.{number_shown, shown_at, received_shown, due_shown, balance_after}
use Rattle.theorem_foot.proofs.Reported.{received_in, due_in, balance_of_in}
use Rattle.theorem_foot.proofs.PrintedLines.{LineOf, return_line, withdrawal_line, refusal_line}

-- a digit more
shown-more : (bytes : List ℕ) (d : ℕ) → number_shown (bytes ++ ((48 + d) ∷ [])) ≡ 10 * number_shown bytes + d
unfolding number_shown
shown-more bytes d = foldl-append (λ (n b : ℕ). 10 * n + (b - 48)) 0 bytes ((48 + d) ∷ []) ∙ (omega arith)

pub number_shown_lem : (n : ℕ) → number_shown (digits n) ≡ n
unfolding number_shown
number_shown_lem =
    digits_ind (λ n. number_shown (digits n) ≡ n)
    (λ n h. ap number_shown (digits_small n h) ∙ (omega arith))
    (λ n h before. ap number_shown (digits_step n h) ∙ shown-more (digits (n / 10)) (n % 10) ∙ (omega arith))

-- a line of so many fields, at one of them
module _ {letter : ℕ} {fields : List (List ℕ)} {text : List ℕ} (line : LineOf letter fields text) where
  shown_at_lem : (k n : ℕ) → field_at ((letter ∷ []) ∷ fields) k ≡ digits n → shown_at k (letter ∷ line.more) ≡ n
  shown_at_lem k n e = ap (λ (fs : List (List ℕ)). number_shown (field_at fs k)) line.parts ∙ ap number_shown e ∙ number_shown_lem n

-- ---- what a text shows is what the report says

pub record TextShows (report : Report) (text : List ℕ) : Type 0 where
  -- its lines, none or one
  pub lines : List (List ℕ)
  pub whole : (rest : List ℕ) → lines_of (text ++ rest) ≡ lines ++ lines_of rest
  pub received : sum_by received_shown lines ≡ received_in report
  pub due : sum_by due_shown lines ≡ due_in report
  pub balance : (n before : ℕ) → foldl (balance_after n) before lines ≡ balance_of_in n report before

pub report_shows : (report : Report) → TextShows report (report_text report)
unfolding report_text sum_by received_shown due_shown balance_after received_in due_in balance_of_in
report_shows Report.Nothing = record { lines = []; whole = λ rest. refl; received = refl; due = refl; balance = λ n before. refl }
report_shows (Report.Return filed) =
    let line = return_line filed in
    record {
      lines = (82 ∷ line.more) ∷ [];
      whole = line.first;
      received = omega (arith, shown_at_lem line 5 filed.received refl);
      due = omega (arith, shown_at_lem line 6 filed.due refl);
      balance = λ n before. rw (shown_at_lem line 1 filed.area refl, shown_at_lem line 7 filed.balance refl);
    }
report_shows (Report.Withdrawal area due) =
    let line = withdrawal_line area due in
    record {
      lines = (87 ∷ line.more) ∷ [];
      whole = line.first;
      received = refl;
      due = omega (arith, shown_at_lem line 2 due refl);
      balance = λ n before. ap (λ (k : ℕ). cond (eqb k n) 0 before) (shown_at_lem line 1 area refl);
    }

-- a line of another letter shows nothing, whatever its fields
pub silent_shows : {letter : ℕ} {fields : List (List ℕ)} {text : List ℕ} → eqb letter (code "R") ≡ false → eqb letter (code "W") ≡ false → LineOf letter fields text
    → TextShows Report.Nothing text
unfolding sum_by received_shown due_shown balance_after received_in due_in balance_of_in
silent_shows {letter} r w line = record {
  lines = (letter ∷ line.more) ∷ [];
  whole = line.first;
  received = rw r;
  due = rw (r, w);
  balance = λ n before. rw (r, w) (same (eqb (shown_at 1 (letter ∷ line.more)) n) before);
}
  where
    same : (t : Bool) (before : ℕ) → cond t before before ≡ before
    same true before = refl
    same false before = refl

pub refusal_shows : (number : ℕ) (refusal : Refusal) → TextShows Report.Nothing (refusal_text number refusal)
refusal_shows number refusal = silent_shows refl refl (refusal_line number refusal)
