-- How far it is to a byte: what a scan for it finds at an index, and what stands before it and behind it. What bytes parted by it are follows,
-- for fields and for lines alike, from how a byte in front of them is parted.
use Rattle.std.specs.Prelude.{Option, Some, None}
use Rattle.std.specs.List.{list_any, position_or_len}
use Rattle.std.specs.Option.{unwrap_or}
use Rattle.std.proofs.lemmas.List.Recursion.{is_position_or_len}
use Rattle.std.proofs.Math.Numerals.{one-add}
use Rattle.laws.proofs.{ℕ, suc, ◌||◌, ⊎_elim, ltb, ltb-false, lt-ltb, le-ltb, ◌+◌, ◌-◌, ◌≤◌, ◌<◌, ◌≡◌, refl, sym, ap, ◌∙◌, Bool, true, false, cond, List, [], ◌∷◌, ◌++◌, arith, add-one, eqb, length, get_or, take, drop, length-drop, drop_of_length-le, drop-cons, drop-drop, take_all, eq-eqb, ne_eqb, eqb-true}
use Rattle.laws.proofs.Order.{below_or_not}
use Rattle.text.specs.{width_to, holds, extend}

-- ---- within the list

pub width_le : (end : ℕ) (s : List ℕ) → width_to end s ≤ length s
unfolding width_to
width_le end [] = omega arith
width_le end (b ∷ s) = go (eqb b end) (width_le end s)
  where
    go : (t : Bool) → width_to end s ≤ length s → cond t 0 (suc (width_to end s)) ≤ suc (length s)
    go true h = omega arith
    go false h = omega arith

-- where the byte is there, it stands behind so many bytes
pub width_split : (end : ℕ) (s : List ℕ) → width_to end s < length s → s ≡ take (width_to end s) s ++ end ∷ drop (suc (width_to end s)) s
unfolding width_to
width_split end [] h = absurd (omega arith)
width_split end (b ∷ s) h = go (eqb b end) refl h (width_split end s)
  where
    go : (t : Bool) → eqb b end ≡ t → cond t 0 (suc (width_to end s)) < suc (length s)
        → (width_to end s < length s → s ≡ take (width_to end s) s ++ end ∷ drop (suc (width_to end s)) s)
        → b ∷ s ≡ take (cond t 0 (suc (width_to end s))) (b ∷ s) ++ end ∷ drop (suc (cond t 0 (suc (width_to end s)))) (b ∷ s)
    go true e h later = ap (λ (k : ℕ). k ∷ s) (eqb-true b end e)
    go false e h later = ap (λ (l : List ℕ). b ∷ l) (later (omega arith))

-- ---- what the library finds

-- the first place of the byte, or the end
width_first : (end : ℕ) (s : List ℕ) → width_to end s ≡ position_or_len (λ b. eqb b end) s
unfolding width_to
width_first end s = is_position_or_len (width_to end) (λ b. eqb b end) refl (λ b bs. rw one-add refl) s

pub width_found : (end : ℕ) (s : List ℕ) (place : Option ℕ)
    → place ≡ cond (ltb (position_or_len (λ b. eqb b end) s) (length s)) (Some (position_or_len (λ b. eqb b end) s)) None
    → unwrap_or place (length s) ≡ width_to end s
width_found end s place e = rw (e, ← width_first end s) (go (ltb (width_to end s) (length s)) refl)
  where
    go : (t : Bool) → ltb (width_to end s) (length s) ≡ t → unwrap_or (cond t (Some (width_to end s)) None) (length s) ≡ width_to end s
    go true h = refl
    go false h = omega (arith, width_le end s, ltb-false _ _ h)

-- whether it stands among the bytes
ltb_next : (m n : ℕ) → ltb m n ≡ ltb (suc m) (suc n)
ltb_next m n = ⊎_elim (λ l. simp (lt-ltb m n l, lt-ltb (suc m) (suc n) (omega arith))) (λ l. simp (le-ltb m n l, le-ltb (suc m) (suc n) (omega arith))) (below_or_not m n)

pub holds_any : (b : ℕ) (s : List ℕ) → list_any (λ c. eqb c b) s ≡ holds b s
unfolding holds width_to
holds_any b [] = refl
holds_any b (c ∷ s) = go (eqb c b) (holds_any b s)
  where
    go : (t : Bool) → list_any (λ c. eqb c b) s ≡ ltb (width_to b s) (length s) → t || list_any (λ c. eqb c b) s ≡ ltb (cond t 0 (suc (width_to b s))) (suc (length s))
    go true h = sym (lt-ltb 0 (suc (length s)) (omega arith))
    go false h = h ∙ ltb_next (width_to b s) (length s)

-- ---- at an index

module _ (end : ℕ) (s : List ℕ) (i : ℕ) where
  pub end_later : i < length s → (get_or s i 0 ≡ end → ⊥) → i + 1 + width_to end (drop (i + 1) s) ≡ i + width_to end (drop i s)
  unfolding width_to
  end_later h other = rw (add-one, drop-cons s i 0 h) (simp (ne_eqb _ _ other) (omega arith))

  pub end_here : i < length s → get_or s i 0 ≡ end → width_to end (drop i s) ≡ 0
  unfolding width_to
  end_here h e = rw (drop-cons s i 0 h) (simp (eq-eqb _ _ e))

  pub end_last : length s ≤ i → width_to end (drop i s) ≡ 0
  unfolding width_to
  end_last h = rw (drop_of_length-le s h)

  pub end_inside : i ≤ length s → i + width_to end (drop i s) ≤ length s
  end_inside h = omega (arith, width_le end (drop i s), length-drop i s)

-- ---- bytes parted by a byte

module _ (end : ℕ) (parts : List ℕ → List (List ℕ)) (step : (b : ℕ) (s : List ℕ) → parts (b ∷ s) ≡ cond (eqb b end) ([] ∷ parts s) (extend b (parts s))) where
  -- the first part, where a byte `end` ends it
  followed : (s : List ℕ) → width_to end s < length s → parts s ≡ take (width_to end s) s ∷ parts (drop (suc (width_to end s)) s)
  unfolding width_to extend
  followed [] h = absurd (omega arith)
  followed (b ∷ s) h = step b s ∙ go (eqb b end) h (followed s)
    where
      go : (t : Bool) → cond t 0 (suc (width_to end s)) < suc (length s) → (width_to end s < length s → parts s ≡ take (width_to end s) s ∷ parts (drop (suc (width_to end s)) s))
          → cond t ([] ∷ parts s) (extend b (parts s)) ≡ take (cond t 0 (suc (width_to end s))) (b ∷ s) ∷ parts (drop (suc (cond t 0 (suc (width_to end s)))) (b ∷ s))
      go true q ih = refl
      go false q ih = ap (extend b) (ih (omega arith))

  -- and where it is the only one
  alone : ((b : ℕ) → extend b (parts []) ≡ (b ∷ []) ∷ []) → (s : List ℕ) → 0 < length s → width_to end s ≡ length s → parts s ≡ s ∷ []
  unfolding width_to extend
  alone none [] h q = absurd (omega arith)
  alone none (b ∷ s) h q = step b s ∙ go (eqb b end) s q (alone none s)
    where
      go : (t : Bool) (r : List ℕ) → cond t 0 (suc (width_to end r)) ≡ suc (length r) → (0 < length r → width_to end r ≡ length r → parts r ≡ r ∷ [])
          → cond t ([] ∷ parts r) (extend b (parts r)) ≡ (b ∷ r) ∷ []
      go true r q ih = absurd (omega arith)
      go false [] q ih = none b
      go false (c ∷ r) q ih = ap (extend b) (ih (omega arith) (omega arith))

  -- the parts from `start` on, where `stop` ends the first of them
  module _ (s : List ℕ) (start stop : ℕ) (e : stop ≡ start + width_to end (drop start s)) where
    pub part-ended : start ≤ length s → stop < length s → parts (drop start s) ≡ take (stop - start) (drop start s) ∷ parts (drop (stop + 1) s)
    part-ended h l =
        let k : width_to end (drop start s) ≡ stop - start = omega arith in
        let m : start + suc (width_to end (drop start s)) ≡ stop + 1 = omega arith in
        followed (drop start s) (simp length-drop (omega arith))
        ∙ ap (λ (n : ℕ). take n (drop start s) ∷ parts (drop (suc (width_to end (drop start s))) (drop start s))) k
        ∙ ap (λ (t : List ℕ). take (stop - start) (drop start s) ∷ parts t) (drop-drop (suc (width_to end (drop start s))) start s ∙ ap (λ (n : ℕ). drop n s) m)

    pub part_last : ((b : ℕ) → extend b (parts []) ≡ (b ∷ []) ∷ []) → start < length s → length s ≤ stop → parts (drop start s) ≡ take (stop - start) (drop start s) ∷ []
    part_last none h l =
        let whole : take (stop - start) (drop start s) ≡ drop start s = take_all (stop - start) (drop start s) (simp length-drop (omega arith)) in
        rw whole (alone none (drop start s) (simp length-drop (omega arith)) (simp length-drop (omega (arith, end_inside end s start (omega arith)))))
