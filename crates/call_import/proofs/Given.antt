-- What an import answers and leaves, from what its parts answered: the table and the statement decide first, and then the sheet.
use Rattle.std.specs.Prelude.{Ok, Err}
use Rattle.laws.proofs.{ℕ, ◌≡◌, sym, ap, ◌∙◌, Bool, true, false, not, List, arith}
use Rattle.refusals.specs.{Refusal, Verdict, weighed, weigh_all, smallest, and_then, smaller, Written}
use Rattle.refusals.proofs.Smaller.{from_less, smaller-first}
use Rattle.table.specs.{is_table, judged}
use Rattle.table_bytes.specs.{numbers_of}
use Rattle.statement.specs.{read_of}
use Rattle.call_output.specs.{Gives}
use Rattle.call_output.proofs.Given.{gives_as}
use Rattle.call_answer.specs.{table_verdict}
use Rattle.call_answer.proofs.Order.{table_six, read-from_eleven}
use Rattle.call_answer.proofs.TableRead.{Lent}
use Rattle.sheet_import.specs.{import_onto, onto_verdict, onto_bytes}
use Rattle.call_import.specs.{weighed_under, under_verdict, import_verdict, import_bytes}

-- the table's number is less than the statement's
table-first : (statement : List ℕ) → smaller (Err Refusal.TableColumn) (read_of statement).verdict ≡ Err Refusal.TableColumn
table-first statement =
    smaller-first Refusal.TableColumn (read_of statement).verdict (from_less 6 11 (read_of statement).verdict (omega arith) (read-from_eleven statement))

-- ---- under the numbers of a table

module _ (own statement sheet : List ℕ) (v : Verdict) (j : v ≡ judged own) where
  six : (refusal : Refusal) → v ≡ Err refusal → refusal ≡ Refusal.TableColumn
  unfolding judged smallest weigh_all weighed
  six refusal e = go (not (is_table own)) (sym j ∙ e)
    where
      go : (unkept : Bool) → weighed (Ok tt) unkept Refusal.TableColumn ≡ Err refusal → refusal ≡ Refusal.TableColumn
      go true e = cc
      go false e = let z : ◌≡◌ {A = ℕ} 0 1 = cc in absurd (omega arith)

  pub under-refused : (refusal : Refusal) → v ≡ Err refusal → under_verdict own statement sheet ≡ Err refusal
  unfolding weighed_under
  under-refused refusal e =
      rw (sym j ∙ e, six refusal e) (ap (λ (x : Verdict). and_then x (import_onto own (read_of statement).holding sheet).verdict) (table-first statement))

  pub under_clear : v ≡ Ok tt → onto_verdict own statement sheet ≡ under_verdict own statement sheet
  unfolding weighed_under onto_verdict
  under_clear e = rw (sym j ∙ e)

-- ---- under a table's bytes

module _ (statement table sheet : List ℕ) where
  pub table_decides : (refusal : Refusal) → table_verdict table ≡ Err refusal → import_verdict statement table sheet ≡ Err refusal
  unfolding weighed_under
  table_decides refusal e =
      let six = table_six table refusal e in
      rw (e, six) (ap (λ (x : Verdict). and_then x (import_onto (numbers_of table) (read_of statement).holding sheet).verdict) (table-first statement))

  pub import_under : (own out : List ℕ) (answer : Written) (after : List ℕ) → Lent table own
      → Gives (under_verdict own statement sheet) (onto_bytes own statement sheet) out answer after
      → Gives (import_verdict statement table sheet) (import_bytes statement table sheet) out answer after
  unfolding weighed_under import_bytes
  import_under own out answer after lent given =
      gives_as
      (ap (λ (l : List ℕ). under_verdict l statement sheet) lent.same
      ∙ ap (λ (x : Verdict). and_then (smaller x (read_of statement).verdict) (import_onto (numbers_of table) (read_of statement).holding sheet).verdict) lent.weighs)
      (ap (λ (l : List ℕ). onto_bytes l statement sheet) lent.same) given
