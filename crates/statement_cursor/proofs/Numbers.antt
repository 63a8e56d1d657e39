-- A number, by where the digits of its field stop: it is theirs where they stop at the field's end and the first is no zero in front of others, and
-- a field that goes on is no value.
use Rattle.std.specs.Prelude.{Ok, Err}
use Rattle.laws.proofs.{ℕ, zero, suc, ◌+◌, ◌-◌, ◌≤◌, ◌<◌, ◌≡◌, refl, sym, ap, ◌∙◌, Bool, true, false, not, cond, ◌&&◌, ◌||◌, List, [], ◌∷◌, arith, lt-ltb, ne_eqb, leb-true, eqb-true, eqb-false, eqb, ltb, leb, length, take, drop, get_or, length-drop, drop-cons}
use Rattle.laws.proofs.Lists.{and_right}
use Rattle.text.specs.{width_to}
use Rattle.text.proofs.Widths.{end_here}
use Rattle.text_number.specs.{Number, Unread, more, headed, number_in}
use Rattle.statement_cursor.specs.{NumberField, Leads, Stops, no_number, number_before, number_at}
use Rattle.statement_cursor.proofs.Fields.{field_nowhere, field_unended, field-read, field_none}

-- whether so many bytes from `first` on are some, and the first is no zero in front of others
abbrev pub leading : ℕ → ℕ → Bool
leading width first = ltb 0 width && (eqb width 1 || not (eqb first 48))

headed_by : (l : List ℕ) (width : ℕ) → width ≤ length l → headed (take width l) ≡ leading width (get_or l 0 0)
unfolding headed
headed_by l zero h = refl
headed_by [] (suc w) h = absurd (omega arith)
headed_by (b ∷ l) (suc zero) h = refl
headed_by (b ∷ []) (suc (suc w)) h = absurd (omega arith)
headed_by (b ∷ c ∷ l) (suc (suc w)) h = simp (lt-ltb 0 (suc (suc w)) (omega arith), ne_eqb (suc (suc w)) 1 (λ e. omega arith))

-- a value is read of all bytes
valued : (l : List ℕ) (v : ℕ) → number_in l ≡ Ok v → more (Ok 0) l ≡ Ok v
unfolding number_in
valued l v e = go (headed l) e
  where
    go : (t : Bool) → cond t (more (Ok 0) l) (Err Unread.Malformed) ≡ Ok v → more (Ok 0) l ≡ Ok v
    go true e = e
    go false e = let z : ◌≡◌ {A = ℕ} 0 1 = cc in absurd (omega arith)

no_number_lem : (most next : ℕ) (n : Number) → ((v : ℕ) → n ≡ Ok v → ⊥) → no_number ≡ number_before most next n
unfolding number_before
no_number_lem most next (Ok v) h = absurd (h v refl)
no_number_lem most next (Err Unread.Large) h = refl
no_number_lem most next (Err Unread.Malformed) h = refl

module _ (s : List ℕ) (at end most value stop : ℕ) (leads : Leads s at end value stop) where
  pub number_unended : length s ≤ stop → no_number ≡ number_at s at end most
  unfolding number_at
  number_unended past = go (eqb at 0) refl
    where
      go : (z : Bool) → eqb at 0 ≡ z → no_number ≡ number_at s at end most
      go true z = field_nowhere _ _ s at end (eqb-true at 0 z)
      go false z = field_unended _ _ s at end _ (eqb-false at 0 z) refl (omega (arith, leads.ended))

  module _ (inside : stop < length s) where
    -- what stops before the field's end is no value
    goes_on : Stops s end value stop → (get_or s stop 0 ≡ end → ⊥) → no_number ≡ number_at s at end most
    unfolding number_at
    goes_on stops other = field_none _ _ s at end (no_number_lem most _ _ (λ v e. other (stops inside v (leads.read ∙ valued _ v e))))

    ends : (at ≡ 0 → ⊥) → get_or s stop 0 ≡ end
        → number_before most (stop + 1) (cond (leading (stop - at) (get_or s at 0)) (Ok value) (Err Unread.Malformed)) ≡ number_at s at end most
    unfolding number_at number_in more
    ends h e =
        let none : width_to end (drop stop s) ≡ 0 = end_here end s stop inside e in
        let width : width_to end (drop at s) ≡ stop - at = omega (arith, leads.ended, leads.behind) in
        let whole : more (Ok 0) (take (stop - at) (drop at s)) ≡ Ok value =
        ap (λ (k : ℕ). more (Ok 0) (take k (drop at s))) (sym width) ∙ sym leads.read ∙ rw none in
        let there : get_or (drop at s) 0 0 ≡ get_or s at 0 = rw (drop-cons s at 0 (omega (arith, leads.behind))) in
        let first : headed (take (stop - at) (drop at s)) ≡ leading (stop - at) (get_or s at 0) =
        headed_by (drop at s) (stop - at) (simp length-drop (omega arith)) ∙ ap (leading (stop - at)) there in
        ap (number_before most (stop + 1)) (simp (first, whole))
        ∙ field-read no_number (λ next bytes. number_before most next (number_in bytes)) s at end stop h (omega (arith, leads.behind)) inside

    -- whether there is a number, and one of at most `most`
    abbrev stands : Bool
    stands = (not (eqb at 0) && eqb (get_or s stop 0) end) && leading (stop - at) (get_or s at 0)

    abbrev taken : Bool
    taken = stands && leb value most

    by_tests : Stops s end value stop → cond taken (record { value = value; next = stop + 1 }) no_number ≡ number_at s at end most
    unfolding number_at number_before
    by_tests stops = go (eqb at 0) refl (eqb (get_or s stop 0) end) refl
      where
        found : (t : Bool) → cond (t && leb value most) (record { value = value; next = stop + 1 }) no_number
            ≡ number_before most (stop + 1) (cond t (Ok value) (Err Unread.Malformed))
        found true = refl
        found false = refl

        go : (z : Bool) → eqb at 0 ≡ z → (e : Bool) → eqb (get_or s stop 0) end ≡ e
            → cond (((not z && e) && leading (stop - at) (get_or s at 0)) && leb value most) (record { value = value; next = stop + 1 }) no_number ≡ number_at s at end most
        go true p e q = field_nowhere _ _ s at end (eqb-true at 0 p)
        go false p true q = found (leading (stop - at) (get_or s at 0)) ∙ ends (eqb-false at 0 p) (eqb-true (get_or s stop 0) end q)
        go false p false q = goes_on stops (eqb-false (get_or s stop 0) end q)

    pub number-taken : Stops s end value stop → taken ≡ true → (◌≡◌ {A = NumberField} (record { value = value; next = stop + 1 }) (number_at s at end most)) × (value ≤ most)
    number-taken stops e = (rw e at (by_tests stops), leb-true value most (and_right stands (leb value most) e))

    pub number-refused : Stops s end value stop → taken ≡ false → no_number ≡ number_at s at end most
    number-refused stops e = rw e at (by_tests stops)
