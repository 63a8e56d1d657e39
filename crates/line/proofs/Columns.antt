-- A line as a T line. One that is no T line, is too long or broken is refused under 1, and of any other its fields decide. A line that is read as a
-- column is accepted as a T line, and the column is the one that its fields name: only T's rule makes a column.
use Rattle.std.specs.Prelude.{Ok, Err}
use Rattle.laws.proofs.{ℕ, suc, ◌≡◌, refl, sym, ap, ◌∙◌, Bool, true, false, not, cond, ◌||◌, List, ◌∷◌, arith, eqb, ltb, length, not-false}
use Rattle.laws.proofs.Elements.{or_false_left}
use Rattle.text.specs.{line_end, holds, split}
use Rattle.refusals.specs.{Verdict, Case, ◌⇒◌, weighed, weigh_all, smallest, buffer_after, Refusal}
use Rattle.refusals.proofs.Smallest.{turned_stands}
use Rattle.refusals.proofs.Laws.{RuledOut, ruled_out}
use Rattle.line_entry.specs.{Entry, Rule, parsed, open_rule, add_rule, clear_rule, plant_rule, file_rule, withdraw_rule}
use Rattle.line_cells.specs.{tenths_all}
use Rattle.line_column.specs.{ReadColumn, cells_of, column_of, column_rule, readable, column_read}
use Rattle.line.proofs.Laws.{first_passed}
use Rattle.line.proofs.Letters.{act_rule, of_acts}
use Rattle.line.specs.{body_of, fields_of, longest, letter_of, is_column_line, no_rule, rule_of, line_rule, conditions, entry_of, as_column}

-- three cases of one number are one test
three_tests : (a b c : Bool) (cs : List Case)
    → smallest (a ⇒ Refusal.Form ∷ b ⇒ Refusal.Form ∷ c ⇒ Refusal.Form ∷ cs) ≡ cond ((a || b) || c) (Err Refusal.Form) (smallest cs)
unfolding smallest weigh_all weighed
three_tests true b c cs = turned_stands Refusal.Form cs
three_tests false true c cs = turned_stands Refusal.Form cs
three_tests false false true cs = turned_stands Refusal.Form cs
three_tests false false false cs = refl

module _ (line s : List ℕ) (e : s ≡ body_of line) (letter : ℕ) (l : letter ≡ letter_of s) (broken : Bool) (b : broken ≡ holds line_end s) where
  as_tested : as_column line ≡ cond ((not (eqb letter 84) || ltb longest (length s)) || broken) (Err Refusal.Form) (smallest (line_rule s).cases)
  unfolding as_column conditions
  as_tested = rw (sym e, l, b) (three_tests (not (eqb (letter_of s) 84)) (ltb longest (length s)) (holds line_end s) (line_rule s).cases)

  pub no_column_lem : (not (eqb letter 84) || ltb longest (length s)) || broken ≡ true → (out : List ℕ)
      → (record { verdict = Err Refusal.Form; column = 0; count = 0 } ≡ column_read (readable (as_column line) (fields_of line) (length out)) (fields_of line))
      × (out ≡ buffer_after (readable (as_column line) (fields_of line) (length out)) (tenths_all (cells_of (fields_of line))) out)
  unfolding readable weighed buffer_after
  no_column_lem t out = rw (as_tested, t) (refl, refl)

  by_rule : (not (eqb letter 84) || ltb longest (length s)) || broken ≡ false → as_column line ≡ smallest (column_rule (split s)).cases
  unfolding line_rule rule_of
  by_rule t =
      let named : eqb letter 84 ≡ true = not-false _ (or_false_left _ (ltb longest (length s)) (or_false_left _ broken t)) in
      rw (as_tested, t, ← l, named)

  pub column_line : (not (eqb letter 84) || ltb longest (length s)) || broken ≡ false → (read : ReadColumn) (kept out : List ℕ)
      → read ≡ column_read (readable (smallest (column_rule (split s)).cases) (split s) (length out)) (split s)
      → kept ≡ buffer_after (readable (smallest (column_rule (split s)).cases) (split s) (length out)) (tenths_all (cells_of (split s))) out
      → (read ≡ column_read (readable (as_column line) (fields_of line) (length out)) (fields_of line))
      × (kept ≡ buffer_after (readable (as_column line) (fields_of line) (length out)) (tenths_all (cells_of (fields_of line))) out)
  column_line t read kept out p q = rw (by_rule t, sym e) (p, q)

-- ---- a line that is read as a column

-- an entry is taken where no case applies, and is its rule's
pub taken_by : (v : Verdict) (x entry : Entry) → parsed v x ≡ Ok entry → (v ≡ Ok tt) × (x ≡ entry)
unfolding parsed
taken_by (Ok _) x entry e = (refl, cc)
taken_by (Err r) x entry e = absurd (let z : ◌≡◌ {A = ℕ} 0 1 = cc in omega arith)

abbrev pub is_column : Entry → Bool
is_column (Entry.Column column) = true
is_column (Entry.On on) = false

pub column_rule_lem : (letter : ℕ) (fs : List (List ℕ)) → is_column (rule_of letter fs).entry ≡ eqb letter 84
unfolding rule_of column_rule open_rule add_rule clear_rule plant_rule file_rule withdraw_rule no_rule
column_rule_lem letter fs = go (eqb letter 84)
  where
    go : (t : Bool) → is_column (cond t (column_rule fs) (act_rule letter fs)).entry ≡ t
    go true = refl
    go false = of_acts (λ (x : Rule). is_column x.entry ≡ false) fs refl refl refl refl refl refl refl letter

pub column_taken_lem : (line : List ℕ) (column : ℕ) → entry_of line ≡ Ok (Entry.Column column)
    → (as_column line ≡ Ok tt) × (column_of (fields_of line) ≡ column)
unfolding entry_of as_column line_rule rule_of column_rule
column_taken_lem line column e =
    let body = body_of line in
    let t = taken_by (smallest (conditions body)) (line_rule body).entry (Entry.Column column) e in
    let named : eqb (letter_of body) 84 ≡ true = sym (column_rule_lem (letter_of body) (split body)) ∙ ap is_column t.1 in
    let entry : Entry.Column (column_of (split body)) ≡ Entry.Column column = rw named at t.1 in
    (first_passed (conditions body) _ (ap not named) ∙ t.0, cc)

-- none of T's cases applies to a line that is accepted as a T line
pub column_cases : (line : List ℕ) → as_column line ≡ Ok tt → RuledOut (column_rule (fields_of line)).cases
unfolding as_column conditions line_rule rule_of
column_cases line e i =
    let body = body_of line in
    let named : eqb (letter_of body) 84 ≡ true = not-false _ (ruled_out _ e 0) in
    rw named at (ruled_out _ e (suc (suc (suc i))))

-- and a T line that is refused so is refused
pub column_refused : (line : List ℕ) (r : Refusal) → is_column_line line ≡ true → as_column line ≡ Err r → entry_of line ≡ Err r
unfolding is_column_line as_column entry_of parsed
column_refused line r named e =
    let body = body_of line in
    rw (sym (first_passed (conditions body) _ (ap not named)) ∙ e)

-- a line that is read as a column is a T line
pub column_named : (line : List ℕ) (column : ℕ) → entry_of line ≡ Ok (Entry.Column column) → is_column_line line ≡ true
unfolding entry_of line_rule is_column_line
column_named line column e =
    let body = body_of line in
    let t = taken_by (smallest (conditions body)) (line_rule body).entry (Entry.Column column) e in
    sym (column_rule_lem (letter_of body) (split body)) ∙ ap is_column t.1

-- and it is read as its column
pub column_entered : (line : List ℕ) → as_column line ≡ Ok tt → entry_of line ≡ Ok (Entry.Column (column_of (fields_of line)))
unfolding as_column entry_of line_rule rule_of column_rule parsed
column_entered line e =
    let body = body_of line in
    let named : eqb (letter_of body) 84 ≡ true = not-false _ (ruled_out _ e 0) in
    let none = sym (first_passed (conditions body) _ (ap not named)) ∙ e in
    rw (none, named) refl
