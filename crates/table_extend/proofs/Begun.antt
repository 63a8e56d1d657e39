-- The table that a column is put to: ten lengths of 0 where there is none, which are then stored in front, and else the table that stands there.
use Rattle.laws.proofs.{ℕ, ◌≤◌, ◌≡◌, refl, sym, ap, ◌∙◌, List, ◌++◌, length, take, drop, replicate, take-append-drop, sets, eq-eqb, ne_eqb}
use lib.Seq.{drop_at}
use Rattle.laws.proofs.Stores.{stored-in_front}
use Rattle.table_parts.specs.{column_count}
use Rattle.table_extend.specs.{begun}

module _ (own : List ℕ) where
  pub begun_none : length own ≡ 0 → begun own ≡ replicate column_count 0
  unfolding begun
  begun_none e = simp (eq-eqb _ _ e)

  pub begun-some : (length own ≡ 0 → ⊥) → begun own ≡ own
  unfolding begun
  begun-some e = simp (ne_eqb _ _ e)

-- the front of a list and what is behind it
parted : (numbers : List ℕ) (count : ℕ) → numbers ≡ take count numbers ++ drop (length (take count numbers)) numbers
parted numbers count =
    sym (take-append-drop count numbers)
    ∙ ap (λ (l : List ℕ). take count numbers ++ l)
    (sym (drop_at (take count numbers) (drop count numbers) (length (take count numbers)) refl)
    ∙ ap (drop (length (take count numbers))) (take-append-drop count numbers))

module _ (numbers : List ℕ) (count : ℕ) where
  abbrev own : List ℕ
  own = take count numbers

  abbrev Begins : ℕ → List ℕ → Type 0
  Begins many after = (many ≡ length (begun own)) × (after ≡ begun own ++ drop (length (begun own)) numbers)

  pub begins : (after : List ℕ) → column_count ≤ length numbers → length own ≡ 0 → after ≡ sets numbers 0 (replicate column_count 0) → Begins column_count after
  begins after room e f = rw (begun_none own e) (refl, f ∙ stored-in_front (replicate column_count 0) numbers room)

  pub stands : (many : ℕ) → many ≡ length own → (length own ≡ 0 → ⊥) → Begins many numbers
  stands many n e = rw (begun-some own e) (n, parted numbers count)
