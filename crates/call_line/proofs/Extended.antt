-- A table extended in place answers by its verdict, and where nothing refuses it the longer one stands in front of the numbers.
use Rattle.std.specs.Prelude.{Ok, Err}
use Rattle.laws.proofs.{ℕ, ◌-◌, ◌≤◌, ◌≡◌, sym, ap, ◌∙◌, List, ◌++◌, arith, length, take, drop, length-take}
use lib.Seq.{take_at}
use Rattle.refusals.specs.{Refusal, Verdict, Written, written, buffer_after}
use Rattle.refusals.proofs.Answers.{was_turned, was_clear}
use Rattle.table.specs.{longest_table}
use Rattle.table_extend.specs.{begun, longer, extensible}

module _ (numbers : List ℕ) (long : length numbers ≡ longest_table) (count column : ℕ) (cells after : List ℕ) (answer : Written) where
  abbrev table : List ℕ
  table = begun (take count numbers)

  abbrev more : List ℕ
  more = longer table column cells

  abbrev verdict : ℕ → Verdict
  verdict room = extensible table column cells room

  module _ (g : (answer ≡ written (verdict (length numbers)) more) × (after ≡ buffer_after (verdict (length numbers)) more numbers)) where
    pub not_extended : (r : Refusal) → answer ≡ Err r → verdict longest_table ≡ Err r
    not_extended r e = sym (ap verdict long) ∙ was_turned (verdict (length numbers)) more r (sym g.0 ∙ e)

    module _ (n : ℕ) (e : answer ≡ Ok n) where
      was : (verdict (length numbers) ≡ Ok tt) × (n ≡ length more)
      was = was_clear (verdict (length numbers)) more n (sym g.0 ∙ e)

      pub extended : verdict longest_table ≡ Ok tt
      extended = sym (ap verdict long) ∙ was.0

      after_as : after ≡ more ++ drop (length more) numbers
      unfolding buffer_after
      after_as = g.1 ∙ ap (λ (v : Verdict). buffer_after v more numbers) was.0

      pub front : take (n - 0) after ≡ more
      front = ap (take (n - 0)) after_as ∙ take_at more (drop (length more) numbers) (n - 0) (omega (arith, was.1))

      pub fits : n ≤ length after
      fits = omega (arith, was.1, ap length front, length-take (n - 0) after)
