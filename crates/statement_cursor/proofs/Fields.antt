-- A field: what it is read as, by the tests on its place and its end.
use Rattle.std.specs.Prelude.{Option}
use Rattle.laws.proofs.{ℕ, ◌+◌, ◌-◌, ◌≤◌, ◌<◌, ◌≡◌, refl, sym, ap, ◌∙◌, Bool, true, false, cond, List, arith, le-leb, lt-leb, eq-eqb, ne_eqb, eqb, leb, length, take, drop}
use Rattle.text.specs.{width_to}
use Rattle.forest.specs.{Forest, named}
use Rattle.statement_cursor.specs.{field_of, field_by, no_type, type_before, type_at}

-- a field at the place 0, one that is not ended, one that ends at `stop`, and one whose bytes are read as none
module _ {A : Type 0} (none : A) (read : ℕ → List ℕ → A) (s : List ℕ) (at end : ℕ) where
  pub field_nowhere : at ≡ 0 → none ≡ field_by none read s at end
  unfolding field_by field_of
  field_nowhere h = simp (eq-eqb at 0 h)

  pub field_unended : (stop : ℕ) → (at ≡ 0 → ⊥) → stop ≡ at + width_to end (drop at s) → length s ≤ stop → none ≡ field_by none read s at end
  unfolding field_by field_of
  field_unended stop h e past = simp (ne_eqb at 0 h, le-leb (length s) (at + width_to end (drop at s)) (omega arith))

  pub field-read : (stop : ℕ) → (at ≡ 0 → ⊥) → stop ≡ at + width_to end (drop at s) → stop < length s
      → read (stop + 1) (take (stop - at) (drop at s)) ≡ field_by none read s at end
  unfolding field_by field_of
  field-read stop h e inside =
      let width : stop - at ≡ width_to end (drop at s) = omega arith in
      simp (ne_eqb at 0 h, lt-leb (length s) (at + width_to end (drop at s)) (omega arith))
      (ap (λ (j : ℕ). read (j + 1) (take (stop - at) (drop at s))) e ∙ ap (λ (j : ℕ). read (at + width_to end (drop at s) + 1) (take j (drop at s))) width)

  pub field_none : none ≡ read (at + width_to end (drop at s) + 1) (take (width_to end (drop at s)) (drop at s)) → none ≡ field_by none read s at end
  unfolding field_by field_of
  field_none e = go (eqb at 0) (leb (length s) (at + width_to end (drop at s)))
    where
      go : (z u : Bool) → none ≡ cond z none (cond u none (read (at + width_to end (drop at s) + 1) (take (width_to end (drop at s)) (drop at s))))
      go true u = refl
      go false true = refl
      go false false = e

-- a type, by what its bytes name
module _ (s : List ℕ) (at end stop : ℕ) (name : Option Forest) (h : at ≡ 0 → ⊥) (e : stop ≡ at + width_to end (drop at s)) (inside : stop < length s) where
  pub type_read : named (take (stop - at) (drop at s)) ≡ name → type_before (stop + 1) name ≡ type_at s at end
  unfolding type_at
  type_read q = ap (type_before (stop + 1)) (sym q) ∙ field-read no_type (λ next bytes. type_before next (named bytes)) s at end stop h e inside
