-- The letter that starts a line and the comma after it: where they stand they are read, and where they are read they stand.
use Rattle.laws.proofs.{ℕ, suc, ◌+◌, ◌<◌, ◌≡◌, refl, sym, ap, ◌∙◌, Bool, true, false, cond, ◌&&◌, List, [], ◌∷◌, arith, lt-ltb, eq-eqb, ne_eqb, ltb-true, eqb-true, eqb-false, ltb, eqb, length, drop, get_or, length-drop, drop-cons, get_or-drop}
use Rattle.statement_format.specs.{start_text}
use Rattle.statement_cursor.specs.{start_at, line_at}
use Rattle.statement_places.proofs.Places.{Stands, There}
use Rattle.statement_places.proofs.Fields.{positive}

module _ (s : List ℕ) (at letter : ℕ) where
  pub start_here : {next : ℕ} → Stands s at (start_text letter) next → start_at s at letter ≡ next
  unfolding start_at start_text
  start_here {next} stands =
      let byte : (i : ℕ) → get_or s (at + i) 0 ≡ get_or (letter ∷ 44 ∷ drop next s) i 0 =
      λ i. sym (get_or-drop at s i 0) ∙ ap (λ (l : List ℕ). get_or l i 0) stands.here in
      let front : at ≡ at + 0 = omega arith in
      let long = ap length stands.here in
      let inside : at + 1 < length s = omega (arith, length-drop at s) in
      let first : get_or s at 0 ≡ letter = ap (λ (i : ℕ). get_or s i 0) front ∙ byte 0 in
      simp (lt-ltb (at + 1) (length s) inside, eq-eqb (get_or s at 0) letter first, eq-eqb (get_or s (at + 1) 0) 44 (byte 1)) (sym stands.after)

  pub start_there : 0 < start_at s at letter → Stands s at (start_text letter) (start_at s at letter)
  unfolding start_at start_text
  start_there = go (ltb (at + 1) (length s)) refl (eqb (get_or s at 0) letter) refl (eqb (get_or s (at + 1) 0) 44) refl
    where
      go : (x : Bool) → ltb (at + 1) (length s) ≡ x → (y : Bool) → eqb (get_or s at 0) letter ≡ y → (z : Bool) → eqb (get_or s (at + 1) 0) 44 ≡ z
          → 0 < cond (x && y && z) (at + 2) 0 → Stands s at (letter ∷ 44 ∷ []) (cond (x && y && z) (at + 2) 0)
      go true hx true hy true hz h =
          let inside : at + 1 < length s = ltb-true (at + 1) (length s) hx in
          let two : suc (suc at) ≡ at + 2 = omega arith in
          let one : suc at ≡ at + 1 = omega arith in
          let comma : get_or s (suc at) 0 ≡ 44 = ap (λ (i : ℕ). get_or s i 0) one ∙ eqb-true (get_or s (at + 1) 0) 44 hz in
          record {
            here =
                drop-cons s at 0 (omega arith) ∙ ap (λ (rest : List ℕ). get_or s at 0 ∷ rest) (drop-cons s (suc at) 0 (omega arith))
                ∙ ap (λ (b : ℕ). b ∷ get_or s (suc at) 0 ∷ drop (suc (suc at)) s) (eqb-true (get_or s at 0) letter hy)
                ∙ ap (λ (b : ℕ). letter ∷ b ∷ drop (suc (suc at)) s) comma
                ∙ ap (λ (p : ℕ). letter ∷ 44 ∷ drop p s) two;
            after = refl;
          }
      go true hx true hy false hz h = absurd (omega arith)
      go true hx false hy z hz h = absurd (omega arith)
      go false hx y hy z hz h = absurd (omega arith)

  pub line_here : {next : ℕ} → 0 < at → Stands s at (start_text letter) next → line_at s at letter ≡ next
  unfolding line_at
  line_here started stands = simp (ne_eqb at 0 (λ e. omega arith)) (start_here stands)

  pub line_there : 0 < line_at s at letter → There s at (start_text letter) (line_at s at letter)
  unfolding line_at
  line_there = go (eqb at 0) refl
    where
      go : (t : Bool) → eqb at 0 ≡ t → 0 < cond t 0 (start_at s at letter) → There s at (start_text letter) (cond t 0 (start_at s at letter))
      go true e h = absurd (omega arith)
      go false e h = record { started = positive at (eqb-false at 0 e); stands = start_there h }
