-- What was read of a table: its numbers stand in front, and are judged as its bytes are.
use Rattle.std.specs.Prelude.{Ok, Err}
use Rattle.laws.proofs.{ℕ, ◌-◌, ◌≤◌, ◌≡◌, refl, sym, ap, ◌∙◌, not, List, [], ◌∷◌, arith, length, take, drop, replicate, length-replicate}
use lib.Seq.{take_at}
use Rattle.refusals.specs.{Refusal, Verdict, weighed, weigh_all, smallest, Written, written, buffer_after}
use Rattle.refusals.proofs.Answers.{was_turned, was_clear}
use Rattle.table.specs.{longest_table, is_table, judged}
use Rattle.table_bytes.specs.{numbers_of, decodable}
use Rattle.table_bytes.proofs.Numbers.{number-count, clear_decodable}
use Rattle.call_answer.specs.{table_verdict}

-- the numbers lent on
pub record Lent (table own : List ℕ) : Type 0 where
  pub same : own ≡ numbers_of table
  pub weighs : judged (numbers_of table) ≡ table_verdict table

-- no table
pub no_table : (table : List ℕ) → length table ≡ 0 → Lent table []
unfolding table_verdict weighed decodable judged smallest weigh_all is_table numbers_of
no_table [] e = record { same = refl; weighs = refl }
no_table (b ∷ table) e = absurd (omega arith)

-- room for the longest table
abbrev room : List ℕ
room = replicate longest_table 0

long : length room ≡ longest_table
long = length-replicate {A = ℕ} longest_table 0

-- what a table's bytes were decoded to
module _ (table after : List ℕ) (decoded : Written) (e : decoded ≡ written (decodable table (length room)) (numbers_of table))
    (f : after ≡ buffer_after (decodable table (length room)) (numbers_of table) room) where
  told : decoded ≡ written (decodable table longest_table) (numbers_of table)
  told = e ∙ ap (λ (n : ℕ). written (decodable table n) (numbers_of table)) long

  pub table-refused : (r : Refusal) → decoded ≡ Err r → table_verdict table ≡ Err r
  unfolding table_verdict weighed
  table-refused r q = rw (was_turned (decodable table longest_table) (numbers_of table) r (sym told ∙ q))

  module _ (n : ℕ) (q : decoded ≡ Ok n) where
    counted : (decodable table longest_table ≡ Ok tt) × (n ≡ length (numbers_of table))
    counted = was_clear (decodable table longest_table) (numbers_of table) n (sym told ∙ q)

    pub table-few : n ≤ longest_table
    table-few = omega (arith, counted.1, number-count table, (clear_decodable table longest_table counted.0).1)

    front : take (n - 0) after ≡ numbers_of table
    unfolding buffer_after
    front =
        ap (take (n - 0))
        (f ∙ ap (λ (k : ℕ). buffer_after (decodable table k) (numbers_of table) room) long
        ∙ ap (λ (v : Verdict). buffer_after v (numbers_of table) room) counted.0)
        ∙ take_at (numbers_of table) (drop (length (numbers_of table)) room) (n - 0) (omega (arith, counted.1))

    pub table-lent : Lent table (take (n - 0) after)
    unfolding table_verdict judged smallest weigh_all
    table-lent = record {
      same = front;
      weighs = ap (λ (v : Verdict). weighed v (not (is_table (numbers_of table))) Refusal.TableColumn) (sym counted.0);
    }
