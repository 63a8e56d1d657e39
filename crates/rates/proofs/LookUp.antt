-- The look-up by where the age lies, and the column consulted by its length.
use Rattle.laws.proofs.{ℕ, ◌+◌, ◌-◌, ◌<◌, ◌≤◌, min, ◌≡◌, refl, sym, ap, Bool, true, false, cond, List, [], ◌++◌, arith, lt-ltb, le-ltb, eq-eqb, ne_eqb, eqb, length, get_or}
use lib.ListN.{get_or-eq_default}
use Rattle.forest.specs.{Forest, letters_of}
use Rattle.schedules.specs.{Kind, Place, listed, place_six}
use Rattle.text.specs.{width_to}
use Rattle.text.proofs.Widths.{width_le}
use Rattle.table_parts.specs.{type_letters, column_number, length_of}
use Rattle.table_lent.specs.{own_column}
use Rattle.rates.specs.{own_number, at_place, column_of, consulted, first_age, cell_at}

module _ (first : ℕ) (cells : List ℕ) (age : ℕ) where
  pub below_first : age < first → 0 ≡ cell_at (listed first cells) age
  unfolding cell_at
  below_first h = simp (lt-ltb _ _ h)

  pub without_cells : first ≤ age → length cells ≡ 0 → 0 ≡ cell_at (listed first cells) age
  unfolding cell_at
  without_cells h e = simp (le-ltb _ _ h) (sym (get_or-eq_default cells 0 {n = min (age - first) (length cells - 1)} (omega arith)))

  pub within : first ≤ age → age - first < length cells → get_or cells (age - first) 0 ≡ cell_at (listed first cells) age
  unfolding cell_at
  within h i = simp (le-ltb _ _ h) (ap (λ (k : ℕ). get_or cells k 0) (omega arith))

  pub beyond_last : first ≤ age → length cells ≤ age - first → get_or cells (length cells - 1) 0 ≡ cell_at (listed first cells) age
  unfolding cell_at
  beyond_last h i = simp (le-ltb _ _ h) (ap (λ (k : ℕ). get_or cells k 0) (omega arith))

pub at_most_ten : (f : Forest) → own_number Kind.Stock f ≤ 10
unfolding column_number width_to
at_most_ten f = omega (arith, width_le (get_or (letters_of f) 0 0) (type_letters ++ type_letters))

-- residue's columns come behind the five of stock
pub five_more : (f : Forest) → 5 + own_number Kind.Stock f ≡ own_number Kind.Residue f
unfolding column_number width_to
five_more f = omega arith

module _ (own default : List ℕ) (number : ℕ) (place : Place) where
  pub by_default : length_of own number ≡ 0 → column_of own default number place ≡ at_place default place
  by_default e = simp (eq-eqb _ _ e)

  pub by_own : (length_of own number ≡ 0 → ⊥) → column_of own default number place ≡ listed 0 (own_column own number)
  by_own e = simp (ne_eqb _ _ e)

  -- the first age does not hang on the default's cells
  pub first_of_any : first_age own number place ≡ (column_of own default number place).first
  first_of_any = go (eqb (length_of own number) 0)
    where
      go : (t : Bool)
          → (cond t (at_place [] place) (listed 0 (own_column own number))).first ≡ (cond t (at_place default place) (listed 0 (own_column own number))).first
      go true = refl
      go false = refl

module _ (own default : List ℕ) (kind : Kind) (forest : Forest) where
  pub defaults : length_of own (own_number kind forest) ≡ 0 → consulted own default kind forest ≡ at_place default (place_six kind forest)
  unfolding consulted
  defaults e = by_default own default (own_number kind forest) (place_six kind forest) e

  pub participants : (length_of own (own_number kind forest) ≡ 0 → ⊥) → consulted own default kind forest ≡ listed 0 (own_column own (own_number kind forest))
  unfolding consulted
  participants e = by_own own default (own_number kind forest) (place_six kind forest) e
