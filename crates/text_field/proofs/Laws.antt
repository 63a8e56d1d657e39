-- The places of fields: what a turn of the scan adds to them, and that the part of a line that they give is the field.
use Rattle.laws.proofs.{ℕ, zero, suc, ◌+◌, ◌-◌, ◌≤◌, ◌<◌, ◌≡◌, refl, sym, ap, ◌∙◌, List, [], ◌∷◌, ⊎_elim, arith, add-one, lt-ltb, le-ltb, length, get_or, take, drop, set, replicate, length-take, length-drop, sets}
use lib.ListN.{get_or-eq_default, get_or-replicate}
use Rattle.laws.proofs.Order.{below_or_not}
use Rattle.laws.proofs.Stores.{get_d_sets}
use Rattle.text.specs.{comma, width_to, split, field_at}
use Rattle.text.proofs.Widths.{end_inside}
use Rattle.text.proofs.Fields.{field_last, field-comma}
use Rattle.text_field.specs.{Places, starts_from, places_of, between, part}

-- ---- a part of a line, by the tests on its ends

module _ (start next : ℕ) (line : List ℕ) where
  pub out_of_order : next ≤ start → [] ≡ between start next line
  unfolding between
  out_of_order h = simp (le-ltb start next h)

  pub past_line : start < next → length line < next - 1 → [] ≡ between start next line
  unfolding between
  past_line h l = simp (lt-ltb start next h, lt-ltb (length line) (next - 1) l)

  pub in_line : start < next → next - 1 ≤ length line → take (next - 1 - start) (drop start line) ≡ between start next line
  unfolding between
  in_line h l = simp (lt-ltb start next h, le-ltb (length line) (next - 1) l)

-- ---- a turn of the scan

module _ (s : List ℕ) (start end : ℕ) (e : end ≡ start + width_to comma (drop start s)) (h : start ≤ length s) (u : end ≤ length s) where
  size : length (take (end - start) (drop start s)) ≡ end - start
  size = length-take (end - start) (drop start s) ∙ simp length-drop (omega arith)

  pub count_next : end < length s → length (split (drop start s)) ≡ 1 + length (split (drop (end + 1) s))
  count_next l = ap length (field-comma s start end e h l) ∙ omega arith

  pub count_last : length s ≤ end → length (split (drop start s)) ≡ 1
  count_last l = ap length (field_last s start end e h l u)

  starts_next : end < length s → starts_from start (split (drop start s)) ≡ start ∷ starts_from (end + 1) (split (drop (end + 1) s))
  unfolding starts_from
  starts_next l =
      let k : start + length (take (end - start) (drop start s)) + 1 ≡ end + 1 = omega (arith, size) in
      ap (starts_from start) (field-comma s start end e h l) ∙ ap (λ (n : ℕ). start ∷ starts_from n (split (drop (end + 1) s))) k

  starts_last : length s ≤ end → starts_from start (split (drop start s)) ≡ start ∷ (end + 1) ∷ []
  unfolding starts_from
  starts_last l =
      let k : start + length (take (end - start) (drop start s)) + 1 ≡ end + 1 = omega (arith, size) in
      ap (starts_from start) (field_last s start end e h l u) ∙ ap (λ (n : ℕ). start ∷ n ∷ []) k

  module _ (a b : List ℕ) (k : ℕ) (q : b ≡ set a k start) where
    pub note_next : end < length s → sets b (k + 1) (starts_from (end + 1) (split (drop (end + 1) s))) ≡ sets a k (starts_from start (split (drop start s)))
    note_next l = rw (q, add-one, starts_next l)

    pub note_last : (c : List ℕ) → c ≡ set b (k + 1) (end + 1) → length s ≤ end → c ≡ sets a k (starts_from start (split (drop start s)))
    note_last c r l = r ∙ rw (q, starts_last l, add-one)

-- ---- the part that places give is the field

head_start : (start : ℕ) (fs : List (List ℕ)) → get_or (starts_from start fs) 0 0 ≡ start
unfolding starts_from
head_start start [] = refl
head_start start (f ∷ fs) = refl

starts_length : (start : ℕ) (fs : List (List ℕ)) → length (starts_from start fs) ≡ suc (length fs)
unfolding starts_from
starts_length start [] = refl
starts_length start (f ∷ fs) = ap suc (starts_length (start + length f + 1) fs)

-- from any start on, a field reaches from its start to one byte before the next
module _ (s : List ℕ) where
  abbrev Reaches : List ℕ → List (List ℕ) → ℕ → Type 0
  Reaches starts fs k = between (get_or starts k 0) (get_or starts (suc k) 0) s ≡ get_or fs k []

  abbrev Stands : ℕ → ℕ → Type 0
  Stands start k = start ≤ length s → k < length (split (drop start s)) → Reaches (starts_from start (split (drop start s))) (split (drop start s)) k

  module _ (start : ℕ) (h : start ≤ length s) where
    abbrev end : ℕ
    end = start + width_to comma (drop start s)

    inside : end ≤ length s
    inside = end_inside comma s start h

    here : between start (end + 1) s ≡ take (end - start) (drop start s)
    here =
        let e : end + 1 - 1 - start ≡ end - start = omega arith in
        sym (in_line start (end + 1) s (omega arith) (omega (arith, inside))) ∙ ap (λ (n : ℕ). take n (drop start s)) e

    only : (k : ℕ) → k < 1 → Reaches (start ∷ (end + 1) ∷ []) (take (end - start) (drop start s) ∷ []) k
    only zero b = here
    only (suc k) b = absurd (omega arith)

    next : (k : ℕ) → ((j : ℕ) → k ≡ suc j → Stands (end + 1) j) → end < length s → k < 1 + length (split (drop (end + 1) s))
        → Reaches (start ∷ starts_from (end + 1) (split (drop (end + 1) s))) (take (end - start) (drop start s) ∷ split (drop (end + 1) s)) k
    next zero later l b = ap (λ (n : ℕ). between start n s) (head_start (end + 1) (split (drop (end + 1) s))) ∙ here
    next (suc k) later l b = later k refl (omega arith) (omega arith)

    first_or_later : (k : ℕ) → ((j : ℕ) → k ≡ suc j → Stands (end + 1) j) → k < length (split (drop start s))
        → Reaches (starts_from start (split (drop start s))) (split (drop start s)) k
    first_or_later k later b =
        ⊎_elim
        (λ more.
        rw (starts_next s start end refl h inside more, field-comma s start end refl h more)
        (next k later more (omega (arith, count_next s start end refl h inside more))))
        (λ last.
        rw (starts_last s start end refl h inside last, field_last s start end refl h last inside)
        (only k (omega (arith, count_last s start end refl h inside last))))
        (below_or_not end (length s))

  stands : (k start : ℕ) → Stands start k
  stands zero start h b = first_or_later start h zero (λ j e. absurd (omega arith)) b
  stands (suc k) start h b = first_or_later start h (suc k) (λ j e. let q : k ≡ j = omega arith in rw (sym q) (stands k (start + width_to comma (drop start s) + 1))) b

  -- and the fields from a field's start on are the rest
  abbrev Follows : ℕ → ℕ → Type 0
  Follows start k =
      let here = get_or (starts_from start (split (drop start s))) k 0 in
      start ≤ length s → k < length (split (drop start s)) → (here ≤ length s) × (split (drop here s) ≡ drop k (split (drop start s)))

  follows_later : (start k : ℕ) → Follows (start + width_to comma (drop start s) + 1) k → Follows start (suc k)
  follows_later start k later h b =
      ⊎_elim
      (λ more.
      rw (starts_next s start (end start h) refl h (inside start h) more, field-comma s start (end start h) refl h more)
      (later (omega arith) (omega (arith, count_next s start (end start h) refl h (inside start h) more))))
      (λ last. absurd (omega (arith, count_last s start (end start h) refl h (inside start h) last)))
      (below_or_not (end start h) (length s))

  follows : (k start : ℕ) → Follows start k
  follows zero start h b = rw (head_start start (split (drop start s))) (h, refl)
  follows (suc k) start h b = follows_later start k (follows k (start + width_to comma (drop start s) + 1)) h b

  -- what is noted of the starts
  noted : (j : ℕ) → j < 7 → get_or (sets (replicate 7 0) 0 (starts_from 0 (split s))) j 0 ≡ get_or (starts_from 0 (split s)) j 0
  noted j h =
      let e : 0 + j ≡ j = omega arith in
      ap (λ (n : ℕ). get_or (sets (replicate 7 0) 0 (starts_from 0 (split s))) n 0) (sym e)
      ∙ get_d_sets (replicate 7 0) 0 (starts_from 0 (split s)) j 0 (omega arith)
      ∙ ap (get_or (starts_from 0 (split s)) j) (ap (λ (n : ℕ). get_or (replicate 7 0) n 0) e ∙ get_or-replicate 7 j 0 0 h)

  pub field_stands : (k : ℕ) → k < 6 → part s (places_of (split s)) k ≡ field_at (split s) k
  unfolding part places_of
  field_stands k h =
      rw (noted k (omega arith), noted (k + 1) (omega arith), add-one)
      (⊎_elim
      (λ b. stands k 0 (omega arith) b)
      (λ past.
      let e : get_or (starts_from 0 (split s)) (suc k) 0 ≡ 0 = get_or-eq_default (starts_from 0 (split s)) 0 (omega (arith, starts_length 0 (split s))) in
      sym (out_of_order _ _ s (omega arith)) ∙ sym (get_or-eq_default (split s) [] past))
      (below_or_not k (length (split s))))

-- the same of places that a scan found
module _ (s : List ℕ) (places : Places) (scanned : places ≡ places_of (split s)) where
  pub count-found : places.count ≡ length (split s)
  unfolding places_of
  count-found = ap (λ (p : Places). p.count) scanned

  pub field_found : (k : ℕ) → k < 6 → part s places k ≡ field_at (split s) k
  field_found k h = ap (λ (p : Places). part s p k) scanned ∙ field_stands s k h

  -- where a field starts, and that the fields from there on are the rest
  pub start-found : (k : ℕ) → k < 7 → k < length (split s) → (get_or places.starts k 0 ≤ length s) × (split (drop (get_or places.starts k 0) s) ≡ drop k (split s))
  unfolding places_of
  start-found k h b =
      let e : get_or places.starts k 0 ≡ get_or (starts_from 0 (split s)) k 0 = ap (λ (p : Places). get_or p.starts k 0) scanned ∙ noted s k h in
      rw e (follows s k 0 (omega arith) b)
