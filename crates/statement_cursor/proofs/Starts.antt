-- The letter and the comma that start a line: each test that fails gives the place 0, and where all hold the place after them is found.
use Rattle.laws.proofs.{ℕ, ◌+◌, ◌≤◌, ◌<◌, ◌≡◌, refl, Bool, true, false, cond, ◌&&◌, List, lt-ltb, le-ltb, eq-eqb, ne_eqb, ltb, eqb, length, get_or}
use Rattle.statement_cursor.specs.{start_at, line_at}

module _ (s : List ℕ) (at letter : ℕ) where
  pub start-short : length s ≤ at + 1 → 0 ≡ start_at s at letter
  unfolding start_at
  start-short h = simp (le-ltb (at + 1) (length s) h)

  pub start_other : (get_or s at 0 ≡ letter → ⊥) → 0 ≡ start_at s at letter
  unfolding start_at
  start_other h = go (ltb (at + 1) (length s))
    where
      go : (x : Bool) → 0 ≡ cond (x && eqb (get_or s at 0) letter && eqb (get_or s (at + 1) 0) 44) (at + 2) 0
      go true = simp (ne_eqb (get_or s at 0) letter h)
      go false = refl

  pub start_no_comma : (get_or s (at + 1) 0 ≡ 44 → ⊥) → 0 ≡ start_at s at letter
  unfolding start_at
  start_no_comma h = go (ltb (at + 1) (length s)) (eqb (get_or s at 0) letter)
    where
      go : (x y : Bool) → 0 ≡ cond (x && y && eqb (get_or s (at + 1) 0) 44) (at + 2) 0
      go true true = simp (ne_eqb (get_or s (at + 1) 0) 44 h)
      go true false = refl
      go false y = refl

  pub start-found : at + 1 < length s → get_or s at 0 ≡ letter → get_or s (at + 1) 0 ≡ 44 → at + 2 ≡ start_at s at letter
  unfolding start_at
  start-found h e f = simp (lt-ltb (at + 1) (length s) h, eq-eqb (get_or s at 0) letter e, eq-eqb (get_or s (at + 1) 0) 44 f)

  pub line_nowhere : at ≡ 0 → 0 ≡ line_at s at letter
  unfolding line_at
  line_nowhere h = simp (eq-eqb at 0 h)

  pub line_started : (at ≡ 0 → ⊥) → start_at s at letter ≡ line_at s at letter
  unfolding line_at
  line_started h = simp (ne_eqb at 0 h)
