-- A T line goes by what the table that grows answers: one law for each answer.
use Rattle.std.specs.Prelude.{Ok, Err}
use Rattle.laws.proofs.{ℕ, ◌≡◌, sym, ◌∙◌, List, take}
use Rattle.refusals.specs.{Refusal, Written, written}
use Rattle.refusals.proofs.Answers.{was_turned, was_clear}
use Rattle.table_grow.specs.{longer_by, growable}
use Rattle.book_column.specs.{column_count}

module _ (numbers : List ℕ) (count areas : ℕ) (line : List ℕ) (answer : Written) where
  abbrev own : List ℕ
  own = take count numbers

  module _ (g : answer ≡ written (growable own areas line) (longer_by own line)) where
    pub column_accepted : (n : ℕ) → answer ≡ Ok n → ((Ok tt) ≡ growable own areas line) × (n ≡ column_count numbers count areas line)
    unfolding column_count
    column_accepted n e =
        let was = was_clear (growable own areas line) (longer_by own line) n (sym g ∙ e) in
        (sym was.0, was.1 ∙ sym (simp was.0))

    pub column_refused : (r : Refusal) → answer ≡ Err r → (Err r ≡ growable own areas line) × (count ≡ column_count numbers count areas line)
    unfolding column_count
    column_refused r e = let was = was_turned (growable own areas line) (longer_by own line) r (sym g ∙ e) in (sym was, sym (simp was))
