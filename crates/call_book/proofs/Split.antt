-- Where the report begins in the bytes that a call wrote: no line of a statement begins with R or W, and a report does, so the scan passes over the
-- statement and stops behind it.
use Rattle.laws.proofs.{ℕ, ◌+◌, ◌≤◌, ◌≡◌, refl, sym, ap, subst, ◌∙◌, Bool, true, false, ◌||◌, List, [], ◌∷◌, ◌++◌, append_assoc, arith, ne_eqb, eqb, length, take, drop, length-append, take-append_seam}
use native.Mathlib.Nat.{add_assoc}
use lib.Seq.{drop-append_seam}
use Rattle.text.specs.{digits}
use Rattle.forest.specs.{Forest}
use Rattle.holding.specs.{Sub, Area, Holding, areas_of, subs_of}
use Rattle.statement_format.specs.{start_text, number_text, type_text, joined, texts, residue_text, sub_text, years_text, amounts_text, area_text, statement_of}
use Rattle.statement_format.proofs.Residues.{sub_text_lem}
use Rattle.step_outcome.specs.{Report}
use Rattle.book_print.specs.{report_text}
use Rattle.statement_places.proofs.Widths.{High, high_digits, high_letters}
use Rattle.call_book.specs.{before_report, statement_in, report_in}

-- the scan passes over the bytes, from a line's beginning or from within a line, and then stands at one or within one
record Passed (begins after : Bool) (bytes : List ℕ) : Type 0 where
  over : (rest : List ℕ) → before_report begins (bytes ++ rest) ≡ length bytes + before_report after rest

passed_none : (t : Bool) → Passed t t []
unfolding before_report
passed_none t = record { over = λ rest. omega arith }

passed_then : {a b c : Bool} {xs ys : List ℕ} → Passed a b xs → Passed b c ys → Passed a c (xs ++ ys)
passed_then {a} {b} {c} {xs} {ys} p q = record {
  over = λ rest.
      ap (before_report a) (append_assoc xs ys rest)
      ∙ p.over (ys ++ rest)
      ∙ ap (λ (n : ℕ). length xs + n) (q.over rest)
      ∙ sym (add_assoc (length xs) (length ys) (before_report c rest))
      ∙ ap (λ (n : ℕ). n + before_report c rest) (sym (length-append xs ys));
}

-- a byte within a line, which ends it or not
passed_byte : (b : ℕ) → Passed false (eqb b 10) (b ∷ [])
unfolding before_report
passed_byte b = record { over = λ rest. omega arith }

passed_high : (bytes : List ℕ) → High bytes → Passed false false bytes
unfolding High
passed_high [] high = passed_none false
passed_high (b ∷ bytes) high =
    passed_then
    (subst (λ (t : Bool). Passed false t (b ∷ [])) (ne_eqb b 10 (λ e. let h : 48 ≤ b = high.0 in omega arith)) (passed_byte b))
    (passed_high bytes high.1)

passed_number : (n end : ℕ) → Passed false (eqb end 10) (number_text n end)
unfolding number_text
passed_number n end = passed_then (passed_high (digits n) (high_digits n)) (passed_byte end)

passed_type : (forest : Forest) (end : ℕ) → Passed false (eqb end 10) (type_text forest end)
unfolding type_text
passed_type forest end = passed_then (passed_high _ (high_letters forest)) (passed_byte end)

-- a line's letter, other than R and W, and the comma
passed_start : (letter : ℕ) → (eqb letter 82 || eqb letter 87) ≡ false → eqb letter 10 ≡ false → Passed true false (start_text letter)
unfolding start_text before_report
passed_start letter e f = record { over = λ rest. simp (e, f) (omega arith) }

passed_texts : {A : Type 0} (text : A → List ℕ) → ((a : A) → Passed true true (text a)) → (l : List A) → Passed true true (texts text l)
unfolding texts
passed_texts text each [] = passed_none true
passed_texts text each (a ∷ l) = passed_then (each a) (passed_texts text each l)

passed_sub : (sub : Sub) → Passed true true (sub_text sub)
unfolding residue_text joined
passed_sub sub =
    rw sub_text_lem
    (passed_then (passed_start 83 refl refl)
    (passed_then (passed_number _ 44)
    (passed_then (passed_number _ 44)
    (passed_then (passed_type _ 44)
    (passed_then (passed_number _ 44)
    (passed_then
    (passed_then (passed_type _ 44) (passed_then (passed_number _ 44) (passed_then (passed_number _ 10) (passed_none true))))
    (passed_none true)))))))

passed_area : (area : Area) → Passed true true (area_text area)
unfolding area_text years_text amounts_text joined
passed_area area =
    passed_then (passed_start 65 refl refl)
    (passed_then
    (passed_then (passed_number _ 44)
    (passed_then (passed_number _ 44)
    (passed_then (passed_number _ 44)
    (passed_then (passed_number _ 44) (passed_none false)))))
    (passed_then
    (passed_then (passed_number _ 44)
    (passed_then (passed_number _ 44)
    (passed_then (passed_number _ 44)
    (passed_then (passed_number _ 44)
    (passed_then (passed_number _ 44) (passed_none false))))))
    (passed_then (passed_number _ 10)
    (passed_then (passed_texts sub_text passed_sub (subs_of area)) (passed_none true)))))

passed_statement : (holding : Holding) → Passed true true (statement_of holding)
unfolding statement_of joined
passed_statement holding =
    passed_then (passed_start 72 refl refl)
    (passed_then (passed_number _ 10)
    (passed_then (passed_texts area_text passed_area (areas_of holding)) (passed_none true)))

-- a report begins at once, or there is none
stops_at : (report : Report) → before_report true (report_text report) ≡ 0
unfolding before_report report_text joined start_text
stops_at Report.Nothing = refl
stops_at (Report.Return filed) = refl
stops_at (Report.Withdrawal area due) = refl

module _ (holding : Holding) (report : Report) where
  behind-statement : before_report true (statement_of holding ++ report_text report) ≡ length (statement_of holding)
  behind-statement = omega (arith, (passed_statement holding).over (report_text report), stops_at report)

  pub statement-split : statement_in (statement_of holding ++ report_text report) ≡ statement_of holding
  statement-split =
      ap (λ (n : ℕ). take n (statement_of holding ++ report_text report)) behind-statement
      ∙ take-append_seam (statement_of holding) (report_text report)

  pub report_split : report_in (statement_of holding ++ report_text report) ≡ report_text report
  report_split =
      ap (λ (n : ℕ). drop n (statement_of holding ++ report_text report)) behind-statement
      ∙ drop-append_seam (statement_of holding) (report_text report)
