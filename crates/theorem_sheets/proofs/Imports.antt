-- An import is the steps of its rows. A row's line begins with S, so that what it is read as, if it is read at all, is one S entry; a row that is taken is an
-- accepted step, and one that is turned down ends the import.
use Rattle.std.specs.Prelude.{Ok, Err}
use Rattle.laws.proofs.{ℕ, ◌≡◌, refl, sym, ap, subst, ◌∙◌, true, List, [], ◌∷◌, ◌++◌, map, arith, length}
use Rattle.laws.specs.{every}
use Rattle.laws.proofs.Lists.{both}
use Rattle.refusals.specs.{Refusal, Verdict, smallest}
use Rattle.text.specs.{comma, split, join}
use Rattle.table.specs.{is_table}
use Rattle.line_entry.specs.{AreaAct, Entry, Parsed, parsed, add_rule}
use Rattle.line.specs.{letter_of, rule_of, line_rule, conditions, entry_of}
use Rattle.holding.specs.{Holding}
use Rattle.step_outcome.specs.{Outcome, placed}
use Rattle.step.specs.{stepped, holding_from}
use Rattle.step.proofs.Entered.{step_is}
use Rattle.book_listing.specs.{entry_taken, parsed_taken, line_taken}
use Rattle.sheet_read.specs.{Row}
use Rattle.sheet_import.specs.{row_line, row_taken, Imported, imported_if, import_rows}
use Rattle.line.proofs.Laws.{ended_body}
use Rattle.theorem_running.specs.{acts_in}
use Rattle.theorem_sheets.specs.{adds_sub, entry_on, row_entries, acts_of_rows}
use Rattle.theorem_sheets.proofs.Taken.{Accepts, after_act, Taken}

-- rows that an import takes are one accepted S entry each, and lead to its holding
pub record Entered (own : List ℕ) (holding : Holding) (rows : List Row) (imported : Imported) (acts : List AreaAct) : Type 0 where
  pub one_each : length acts ≡ length rows
  pub additions : every adds_sub acts ≡ true
  pub taken : Taken own holding acts
  pub left : imported.holding ≡ holding_from own holding acts

-- ---- what a row is read as

abbrev body_in : Row → List ℕ
body_in row = 83 ∷ comma ∷ join row

-- S's rule judges it
row_read : (row : Row) → entry_of (row_line row) ≡ parsed (smallest (conditions (body_in row))) (add_rule (split (body_in row))).entry
unfolding entry_of line_rule letter_of rule_of
row_read row = ap (λ (l : List ℕ). parsed (smallest (conditions l)) (line_rule l).entry) (ended_body (body_in row))

-- one S entry, where it is read at all
record OneAdded (row : Row) : Type 0 where
  pub on : AreaAct
  pub read : entry_of (row_line row) ≡ entry_on on
  pub added : adds_sub on ≡ true

row_added : (row : Row) (entry : Entry) → entry_of (row_line row) ≡ Ok entry → OneAdded row
unfolding parsed add_rule
row_added row entry e = go (smallest (conditions (body_in row))) (row_read row)
  where
    go : (v : Verdict) → entry_of (row_line row) ≡ parsed v (add_rule (split (body_in row))).entry → OneAdded row
    go (Ok _) r = record { on = _; read = r; added = refl }
    go (Err s) r = absurd (let z : ◌≡◌ {A = ℕ} 0 1 = cc in omega arith)

-- ---- the verdict of rows

if_taken_lem : (v : Verdict) (given : Holding) (rest : Imported) → (imported_if v given rest).verdict ≡ Ok tt → v ≡ Ok tt
if_taken_lem (Ok _) given rest e = refl
if_taken_lem (Err r) given rest e = e

-- a refusal answers the holding that was given
pub if_refused : (v : Verdict) (given : Holding) (rest : Imported) (r : Refusal) → (imported_if v given rest).verdict ≡ Err r
    → (rest.verdict ≡ Err r → rest.holding ≡ given) → (imported_if v given rest).holding ≡ given
if_refused (Ok _) given rest r e later = later e
if_refused (Err s) given rest r e later = refl

module _ (own : List ℕ) (given : Holding) where
  pub rows_refused : (holding : Holding) (rows : List Row) (r : Refusal) → (import_rows own given holding rows).verdict ≡ Err r
      → (import_rows own given holding rows).holding ≡ given
  unfolding import_rows
  rows_refused holding [] r e = absurd (let z : ◌≡◌ {A = ℕ} 0 1 = cc in omega arith)
  rows_refused holding (row ∷ rows) r e =
      let outcome = row_taken own holding row in
      if_refused outcome.verdict given (import_rows own given (placed holding outcome) rows) r e (rows_refused (placed holding outcome) rows r)

module _ (own : List ℕ) (table : is_table own ≡ true) where
  -- ---- a row that is read as an act is the step

  module _ (holding : Holding) (row : Row) where
    row_steps : (on : AreaAct) → entry_of (row_line row) ≡ entry_on on → row_taken own holding row ≡ stepped own holding on
    unfolding line_taken parsed_taken entry_taken
    row_steps on e = ap (parsed_taken own holding (row_line row)) e ∙ step_is own holding on table

    row_one : (row_taken own holding row).verdict ≡ Ok tt → OneAdded row
    unfolding line_taken parsed_taken
    row_one e = go (entry_of (row_line row)) refl e
      where
        go : (read : Parsed) → entry_of (row_line row) ≡ read → (parsed_taken own holding (row_line row) read).verdict ≡ Ok tt → OneAdded row
        go (Ok entry) r e = row_added row entry r
        go (Err s) r e = absurd (let z : ◌≡◌ {A = ℕ} 0 1 = cc in omega arith)

    row_first : (given : Holding) (rows : List Row) (on : AreaAct) → entry_of (row_line row) ≡ entry_on on → Accepts own holding on
        → import_rows own given holding (row ∷ rows) ≡ import_rows own given (after_act own holding on) rows
    unfolding import_rows
    row_first given rows on e t =
        let rest = import_rows own given (after_act own holding on) rows in
        ap (λ (o : Outcome). imported_if o.verdict given (import_rows own given (placed holding o) rows)) (row_steps on e)
        ∙ ap (λ (v : Verdict). imported_if v given rest) t

  -- ---- rows that are read as acts that are all accepted

  pub rows_taken : (given holding : Holding) (rows : List Row) (acts : List AreaAct) → row_entries rows ≡ map entry_on acts → Taken own holding acts
      → import_rows own given holding rows ≡ record { verdict = (Ok tt); holding = holding_from own holding acts }
  unfolding import_rows holding_from Taken
  rows_taken given holding [] [] e t = refl
  rows_taken given holding [] (on ∷ acts) e t = absurd (let z : ◌≡◌ {A = ℕ} 0 1 = cc in omega arith)
  rows_taken given holding (row ∷ rows) [] e t = absurd (let z : ◌≡◌ {A = ℕ} 0 1 = cc in omega arith)
  rows_taken given holding (row ∷ rows) (on ∷ acts) e t =
      let first : entry_of (row_line row) ≡ entry_on on = cc in
      let later : row_entries rows ≡ map entry_on acts = cc in
      row_first holding row given rows on first t.0 ∙ rows_taken given (after_act own holding on) rows acts later t.1

  -- ---- rows that an import takes

  module _ (given : Holding) where
    abbrev RowsEntered : Holding → List Row → Type 0
    RowsEntered holding rows = Entered own holding rows (import_rows own given holding rows) (acts_of_rows rows)

    pub rows_entered : (holding : Holding) (rows : List Row) → (import_rows own given holding rows).verdict ≡ Ok tt → RowsEntered holding rows
    unfolding import_rows acts_of_rows every holding_from Taken
    rows_entered holding [] e = record { one_each = refl; additions = refl; taken = tt; left = refl }
    rows_entered holding (row ∷ rows) e =
        let accepted : (row_taken own holding row).verdict ≡ Ok tt = if_taken_lem (row_taken own holding row).verdict given _ e in
        let one = row_one holding row accepted in
        let on = one.on in
        let taken = ap (λ (o : Outcome). o.verdict) (sym (row_steps holding row on one.read)) ∙ accepted in
        let first = row_first holding row given rows on one.read taken in
        let rest = rows_entered (after_act own holding on) rows (ap (λ (i : Imported). i.verdict) (sym first) ∙ e) in
        let acts : acts_of_rows (row ∷ rows) ≡ on ∷ acts_of_rows rows = ap (λ (p : Parsed). acts_in p ++ acts_of_rows rows) one.read in
        subst (Entered own holding (row ∷ rows) (import_rows own given holding (row ∷ rows))) (sym acts) (record {
          one_each = omega (arith, rest.one_each);
          additions = both _ _ one.added rest.additions;
          taken = (taken, rest.taken);
          left = ap (λ (i : Imported). i.holding) first ∙ rest.left;
        })
