-- What is put for a line is what is printed for it, by its verdict.
use Rattle.std.specs.Prelude.{Ok, Err}
use Rattle.laws.proofs.{ℕ, ◌≡◌, sym, ap}
use Rattle.refusals.specs.{Refusal, Verdict}
use Rattle.step_outcome.specs.{Outcome}
use Rattle.book_print.specs.{report_text, refusal_text}
use Rattle.book_listing.specs.{printed_for}

module _ (number : ℕ) (outcome : Outcome) where
  pub accepted_prints : outcome.verdict ≡ Ok tt → report_text outcome.report ≡ printed_for number outcome.verdict outcome
  unfolding printed_for
  accepted_prints e = sym (ap (λ (v : Verdict). printed_for number v outcome) e)

  pub refused_prints : (refusal : Refusal) → outcome.verdict ≡ Err refusal → refusal_text number refusal ≡ printed_for number outcome.verdict outcome
  unfolding printed_for
  refused_prints refusal e = sym (ap (λ (v : Verdict). printed_for number v outcome) e)
