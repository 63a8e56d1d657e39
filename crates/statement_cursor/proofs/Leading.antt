-- The digits that a field starts with: a digit that fits moves the number and the place on, and a field with any other byte is no value.
use Rattle.std.specs.Prelude.{Ok}
use Rattle.laws.proofs.{ℕ, ◌+◌, ◌*◌, ◌-◌, ◌≤◌, ◌<◌, ◌≡◌, refl, sym, ◌∙◌, Bool, true, false, ◌||◌, List, arith, add-one, lt-ltb, le-ltb, ne_eqb, eqb, ltb, eqb-true, eqb-false, ltb-true, ltb-false, length, get_or, drop-cons}
use Rattle.laws.proofs.Elements.{or_false_left, or_false_right}
use Rattle.text.specs.{width_to}
use Rattle.text.proofs.Widths.{end_later}
use Rattle.text_number.specs.{room, append, more}
use Rattle.text_number.proofs.Laws.{append_low, append_high, append-known}
use Rattle.text_number.proofs.RoundTrip.{stuck}
use Rattle.statement_cursor.specs.{field_from, Leads, Stops}

-- the largest number that has room for one digit more
abbrev largest : ℕ
largest = 99999999999999

-- whether a byte stops the digits of a number: it ends the field, is no digit, or there is no room for it
abbrev pub stopped : ℕ → ℕ → ℕ → Bool
stopped end value b = ((eqb b end || ltb b 48) || ltb 57 b) || ltb largest value

pub record Digit (end value b : ℕ) : Type 0 where
  pub other : b ≡ end → ⊥
  pub low : 48 ≤ b
  pub high : b ≤ 57
  pub fits : value < room

module _ (end value b : ℕ) where
  pub a_digit : stopped end value b ≡ false → Digit end value b
  a_digit e =
      let high = or_false_left ((eqb b end || ltb b 48) || ltb 57 b) (ltb largest value) e in
      let low = or_false_left (eqb b end || ltb b 48) (ltb 57 b) high in
      record {
        other = eqb-false b end (or_false_left (eqb b end) (ltb b 48) low);
        low = ltb-false b 48 (or_false_right (eqb b end) (ltb b 48) low);
        high = ltb-false 57 b (or_false_right (eqb b end || ltb b 48) (ltb 57 b) high);
        fits = omega (arith, ltb-false largest value (or_false_right ((eqb b end || ltb b 48) || ltb 57 b) (ltb largest value) e));
      }

  -- what a digit makes of the number
  one_more : Digit end value b → Ok (value * 10 + (b - 48)) ≡ append (Ok value) b
  one_more d = append-known _ _ _ b d.low d.high refl (simp (lt-ltb value room d.fits))

  -- any other byte makes no value of it
  no_value : (bs : List ℕ) (v : ℕ) → stopped end value b ≡ true → (b ≡ end → ⊥) → more (append (Ok value) b) bs ≡ Ok v → ⊥
  no_value bs v e other q = go (ltb b 48) refl (ltb 57 b) refl (ltb largest value) refl (simp (ne_eqb b end other) at e)
    where
      go : (l : Bool) → ltb b 48 ≡ l → (h : Bool) → ltb 57 b ≡ h → (r : Bool) → ltb largest value ≡ r → ((l || h) || r) ≡ true → ⊥
      go true l h p r t e = (stuck _ bs v q).1 (sym (append_low _ b (ltb-true b 48 l)))
      go false l true h r t e = (stuck _ bs v q).1 (sym (append_high _ b (ltb-true 57 b h)))
      go false l false h true t e =
          (stuck _ bs v q).0
          (sym (append-known _ _ _ b (ltb-false b 48 l) (ltb-false 57 b h) refl (simp (le-ltb value room (omega (arith, ltb-true largest value t))))))
      go false l false h false t e = let z : ◌≡◌ {A = ℕ} 0 1 = cc in omega arith

module _ (s : List ℕ) (end value i : ℕ) (h : i < length s) where
  -- a field that does not end at a place goes on behind it
  field_later : (get_or s i 0 ≡ end → ⊥) → more (append (Ok value) (get_or s i 0)) (field_from s (i + 1) end) ≡ more (Ok value) (field_from s i end)
  unfolding more width_to
  field_later other = rw (add-one, drop-cons s i 0 h) (simp (ne_eqb _ _ other))

  pub leads_on : (at : ℕ) → Digit end value (get_or s i 0) → Leads s at end value i → Leads s at end (value * 10 + (get_or s i 0 - 48)) (i + 1)
  leads_on at d l = record {
    behind = omega (arith, l.behind);
    ended = end_later end s i h d.other ∙ l.ended;
    read = rw (one_more end value (get_or s i 0) d) (field_later d.other ∙ l.read);
  }

  pub stops : stopped end value (get_or s i 0) ≡ true → Stops s end value i
  stops e inside v q = go (eqb (get_or s i 0) end) refl
    where
      go : (t : Bool) → eqb (get_or s i 0) end ≡ t → get_or s i 0 ≡ end
      go true t = eqb-true (get_or s i 0) end t
      go false t = let other = eqb-false (get_or s i 0) end t in absurd (no_value end value (get_or s i 0) _ v e other (field_later other ∙ q))
