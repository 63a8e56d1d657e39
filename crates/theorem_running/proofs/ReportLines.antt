-- The lines of a listing that begin with R or W: what is printed for a line of the book is one line of the listing or none, and the letter that it begins
-- with tells a report from X, F and E.
use Rattle.laws.proofs.{ℕ, ◌≡◌, refl, sym, ap, ◌∙◌, true, false, List, [], ◌∷◌, ◌++◌, append-nil}
use Rattle.laws.specs.{keep}
use Rattle.refusals.specs.{Refusal}
use Rattle.step_outcome.specs.{Report}
use Rattle.statement_format.specs.{texts}
use Rattle.book_print.specs.{report_text, refusal_text, foot_text, end_text}
use Rattle.book_listing.specs.{lines_of}
use Rattle.theorem_foot.proofs.PrintedLines.{LineOf, return_line, withdrawal_line, pair_line, refusal_line, foot_line}
use Rattle.theorem_running.specs.{is_report, ended, reports_in}

module _ {letter : ℕ} {fields : List (List ℕ)} {text : List ℕ} (line : LineOf letter fields text) (rest : List ℕ) where
  told : is_report (letter ∷ []) ≡ true → reports_in (text ++ rest) ≡ text ++ reports_in rest
  unfolding reports_in keep texts
  told e =
      ap (λ (l : List (List ℕ)). texts ended (keep is_report l)) (line.first rest) ∙ rw e (ap (λ (l : List ℕ). l ++ reports_in rest) (sym line.whole))

  untold : is_report (letter ∷ []) ≡ false → reports_in (text ++ rest) ≡ reports_in rest
  unfolding reports_in keep
  untold e = ap (λ (l : List (List ℕ)). texts ended (keep is_report l)) (line.first rest) ∙ rw e

-- a report is told, and X, F and E are not
pub report_told : (report : Report) (rest : List ℕ) → reports_in (report_text report ++ rest) ≡ report_text report ++ reports_in rest
unfolding report_text
report_told Report.Nothing rest = refl
report_told (Report.Return filed) rest = told (return_line filed) rest refl
report_told (Report.Withdrawal area due) rest = told (withdrawal_line area due) rest refl

pub refusal_untold : (number : ℕ) (refusal : Refusal) (rest : List ℕ) → reports_in (refusal_text number refusal ++ rest) ≡ reports_in rest
refusal_untold number refusal rest = untold (refusal_line number refusal) rest refl

pub foot_untold : (received surrendered balance : ℕ) (rest : List ℕ) → reports_in (foot_text received surrendered balance ++ rest) ≡ reports_in rest
foot_untold received surrendered balance rest = untold (foot_line received surrendered balance) rest refl

pub end_untold : (accepted refused : ℕ) → reports_in (end_text accepted refused) ≡ []
unfolding end_text reports_in lines_of keep texts
end_untold accepted refused =
    ap reports_in (sym (append-nil (end_text accepted refused))) ∙ untold (pair_line 69 accepted refused refl refl) [] refl
