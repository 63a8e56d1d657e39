-- A T line's column is the column that a look-up of its kind and type consults, and every other look-up consults the column that it did: the longer
-- table has the line's cells under the column's number, and under every other number what the table had.
use Rattle.std.specs.Prelude.{Ok}
use Rattle.laws.proofs.{ℕ, ◌<◌, ◌≡◌, refl, sym, ap, ◌∙◌, Bool, true, false, List, [], ◌∷◌, arith, eqb, leb-false, eqb-false, eqb-true, ne_eqb, not-false, length, replicate}
use Rattle.laws.specs.{each_at_most}
use Rattle.laws.proofs.Lists.{ceiling_at}
use Rattle.refusals.specs.{Verdict}
use Rattle.refusals.proofs.Laws.{ruled_out}
use Rattle.forest.specs.{Forest}
use Rattle.schedules.specs.{Kind, listed}
use Rattle.line_entry.specs.{Entry, Parsed}
use Rattle.line.specs.{entry_of}
use Rattle.line.proofs.Columns.{column_entered}
use Rattle.table_parts.specs.{column_count, length_of}
use Rattle.table_parts.proofs.Lengths.{past_length}
use Rattle.table.specs.{longest_table}
use Rattle.table.proofs.Columns.{Columns, columns_read}
use Rattle.table_extend.specs.{begun, is_free, extensible}
use Rattle.table_lent.specs.{own_column}
use Rattle.table_grow.specs.{line_column, line_cells, longer_by, growable}
use Rattle.table_grow.proofs.Fits.{grown_extensible}
use Rattle.rates.specs.{own_number, consulted}
use Rattle.rates.proofs.LookUp.{participants, defaults}
use Rattle.theorem_columns.specs.{Names}
use Rattle.theorem_columns.proofs.Longer.{new_length, new_cells, other_length, other_cells}

-- what an accepted T line says of the table and of its column
record Extends (table : List ℕ) (column : ℕ) (cells : List ℕ) : Type 0 where
  columns : Columns table
  inside : column < column_count
  free : is_free table column ≡ true
  some : length cells ≡ 0 → ⊥

extends : (table : List ℕ) (column : ℕ) (cells : List ℕ) (room : ℕ) → extensible table column cells room ≡ Ok tt → Extends table column cells
unfolding extensible
extends table column cells room e =
    let n = ruled_out _ e in
    record { columns = columns_read table (not-false _ (n 0)); inside = leb-false _ _ (n 1); free = not-false _ (n 5); some = eqb-false _ _ (n 2) }

-- no table yet is looked up as ten columns without cells
nought : (number : ℕ) → length_of (replicate column_count 0) number ≡ 0
unfolding length_of each_at_most
nought number = omega (arith, ceiling_at 0 (replicate column_count 0) refl number)

begun-consulted : (own default : List ℕ) (kind : Kind) (forest : Forest) → consulted (begun own) default kind forest ≡ consulted own default kind forest
unfolding begun
begun-consulted [] default kind forest =
    defaults (replicate column_count 0) default kind forest (nought (own_number kind forest))
    ∙ sym (defaults [] default kind forest (sym (past_length [] (own_number kind forest) (omega arith))))
begun-consulted (n ∷ own) default kind forest = simp (ne_eqb (length (n ∷ own)) 0 (λ e. omega arith))

module _ (own : List ℕ) (areas : ℕ) (line : List ℕ) (clear : growable own areas line ≡ Ok tt) (default : List ℕ) (kind : Kind) (forest : Forest) where
  grows : Extends (begun own) (line_column line) (line_cells line)
  grows = extends (begun own) (line_column line) (line_cells line) longest_table (grown_extensible own areas line clear).1

  named-number : Names line kind forest → line_column line ≡ own_number kind forest
  unfolding line_column
  named-number named = simp (named.of_kind, named.of_type)

  -- "It extends the table": a look-up of the line's kind and type consults the line's cells, by "ages from 0"
  pub own-consulted : Names line kind forest → consulted (longer_by own line) default kind forest ≡ listed 0 (line_cells line)
  unfolding longer_by
  own-consulted named =
      let g = grows in
      let after = longer_by own line in
      let number = named-number named in
      let size = ap (length_of after) (sym number) ∙ new_length (begun own) (line_column line) (line_cells line) g.columns g.inside g.free in
      participants after default kind forest (λ z. g.some (sym size ∙ z))
      ∙ ap (λ (n : ℕ). listed 0 (own_column after n)) (sym number)
      ∙ ap (listed 0) (new_cells (begun own) (line_column line) (line_cells line) g.columns g.inside g.free)

  -- the entry that the line is read as has the number by which its kind and type are looked up
  pub own-entered : Names line kind forest → entry_of line ≡ Ok (Entry.Column (own_number kind forest))
  unfolding line_column
  own-entered named = column_entered line (grown_extensible own areas line clear).0 ∙ ap (λ (n : ℕ). Ok (Entry.Column n)) (named-number named)

  -- every other look-up consults what it did
  pub others_consulted : (own_number kind forest ≡ line_column line → ⊥) → consulted (longer_by own line) default kind forest ≡ consulted own default kind forest
  unfolding longer_by
  others_consulted other = go (eqb (length_of (begun own) number) 0) refl ∙ begun-consulted own default kind forest
    where
      g : Extends (begun own) (line_column line) (line_cells line)
      g = grows

      number : ℕ
      number = own_number kind forest

      size : length_of (longer_by own line) number ≡ length_of (begun own) number
      size = other_length (begun own) (line_column line) (line_cells line) g.columns g.inside g.free number other

      go : (t : Bool) → eqb (length_of (begun own) number) 0 ≡ t → consulted (longer_by own line) default kind forest ≡ consulted (begun own) default kind forest
      go true e =
          let none = eqb-true _ _ e in
          defaults (longer_by own line) default kind forest (size ∙ none) ∙ sym (defaults (begun own) default kind forest none)
      go false e =
          let some = eqb-false _ _ e in
          participants (longer_by own line) default kind forest (λ z. some (sym size ∙ z))
          ∙ ap (listed 0) (other_cells (begun own) (line_column line) (line_cells line) g.columns g.inside g.free number other some)
          ∙ sym (participants (begun own) default kind forest some)
