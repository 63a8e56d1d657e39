-- Numbers with a point: zeros filled in, and what follows the whole number.
use Rattle.std.specs.Prelude.{Err}
use Rattle.laws.proofs.{ℕ, suc, ◌+◌, ◌-◌, ◌≤◌, ◌<◌, ◌≡◌, sym, ap, ◌∙◌, List, ◌∷◌, arith, add-one, lt-ltb, le-ltb, eq-eqb, ne_eqb, length, get_or, take, drop, length-drop, drop_of_length-le, drop-cons, take_all}
use Rattle.text.specs.{width_to}
use Rattle.text_number.specs.{Number, Unread, append, more, number_in}
use Rattle.text_decimal.specs.{point, zeros, with_decimals, decimal_in, hectares_in}

module _ (n : Number) (count done : ℕ) where
  pub zeros-next : done < count → more (append n 48) (zeros (count - (done + 1))) ≡ more n (zeros (count - done))
  unfolding more
  zeros-next h = let e : count - done ≡ suc (count - (done + 1)) = omega arith in sym (ap (λ (k : ℕ). more n (zeros k)) e)

  pub zeros_end : count ≤ done → more n (zeros (count - done)) ≡ n
  unfolding more
  zeros_end h = let e : count - done ≡ 0 = omega arith in ap (λ (k : ℕ). more n (zeros k)) e

-- ---- decimals, by what follows the whole number

module _ (k : ℕ) (s : List ℕ) (p : ℕ) (w : Number) (e : p ≡ 0 + width_to point s) (ew : w ≡ number_in (take p s)) where
  -- what the code calls the decimals
  abbrev behind : List ℕ
  behind = take (length s - (p + 1)) (drop (p + 1) s)

  whole : decimal_in k s ≡ with_decimals k w (drop p s)
  unfolding decimal_in
  whole =
      let all : p ≡ width_to point s = omega arith in
      sym (ap (with_decimals k w) (ap (λ (m : ℕ). drop m s) all)
      ∙ ap (λ (n : Number). with_decimals k n (drop (width_to point s) s)) (ew ∙ ap (λ (m : ℕ). number_in (take m s)) all))

  pub none_behind : length s ≤ p → more w (zeros k) ≡ decimal_in k s
  unfolding with_decimals
  none_behind h = sym (whole ∙ ap (with_decimals k w) (drop_of_length-le s h))

  module _ (h : p < length s) where
    followed : decimal_in k s ≡ with_decimals k w (get_or s p 0 ∷ behind)
    followed =
        let f : drop (p + 1) s ≡ behind = sym (take_all (length s - (p + 1)) (drop (p + 1) s) (simp length-drop (omega arith))) in
        whole ∙ ap (with_decimals k w) (drop-cons s p 0 h ∙ ap (λ (t : List ℕ). get_or s p 0 ∷ t) (ap (λ (m : ℕ). drop m s) (sym (add-one p)) ∙ f))

    pub bare_point : length behind ≡ 0 → Err Unread.Malformed ≡ decimal_in k s
    unfolding with_decimals
    bare_point z = sym (followed ∙ simp (eq-eqb (length behind) 0 z))

    pub too_many : (length behind ≡ 0 → ⊥) → k < length behind → Err Unread.Malformed ≡ decimal_in k s
    unfolding with_decimals
    too_many z l = sym (followed ∙ simp (ne_eqb (length behind) 0 z, lt-ltb k (length behind) l))

    pub with_decimals_lem : (length behind ≡ 0 → ⊥) → length behind ≤ k → more (more w behind) (zeros (k - length behind)) ≡ decimal_in k s
    unfolding with_decimals
    with_decimals_lem z l = sym (followed ∙ simp (ne_eqb (length behind) 0 z, le-ltb k (length behind) l))

pub seven_digits : (s : List ℕ) → 6 < width_to point s → Err Unread.Malformed ≡ hectares_in s
unfolding hectares_in
seven_digits s h = simp (lt-ltb 6 (width_to point s) h)

pub six_digits : (s : List ℕ) → width_to point s ≤ 6 → decimal_in 4 s ≡ hectares_in s
unfolding hectares_in
six_digits s h = simp (le-ltb 6 (width_to point s) h)
