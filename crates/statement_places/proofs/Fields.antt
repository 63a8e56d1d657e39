-- A field that stands at a place is read there, and what is read stands there, whatever `read` makes of a field's bytes.
use Rattle.laws.proofs.{ℕ, suc, ◌+◌, ◌<◌, ◌≡◌, refl, sym, ap, ◌∙◌, Bool, true, false, cond, List, [], ◌∷◌, ◌++◌, append_assoc, ⊎_elim, arith, lt-leb, ne_eqb, eqb-false, leb-false, leb, eqb, length, take, drop, length-append, length-take, length-drop, drop-drop}
use lib.Seq.{take_at}
use Rattle.laws.proofs.Order.{below_or_not}
use Rattle.text.specs.{width_to}
use Rattle.text.proofs.Widths.{width_split}
use Rattle.statement_cursor.specs.{field_of, field_by}
use Rattle.statement_places.proofs.Places.{Stands}
use Rattle.statement_places.proofs.Widths.{High, width_high}

pub positive : (n : ℕ) → (n ≡ 0 → ⊥) → 0 < n
positive n h = ⊎_elim (λ l. absurd (h (omega arith))) (λ l. omega arith) (below_or_not n 1)

module _ {A : Type 0} (none : A) (read : ℕ → List ℕ → A) (s : List ℕ) (at end : ℕ) where
  pub field_here : (bytes : List ℕ) (next : ℕ) → 0 < at → end < 48 → High bytes → Stands s at (bytes ++ (end ∷ [])) next
      → field_by none read s at end ≡ read next bytes
  unfolding field_by field_of
  field_here bytes next started low high stands =
      let split : drop at s ≡ bytes ++ end ∷ drop next s = stands.here ∙ append_assoc bytes (end ∷ []) (drop next s) in
      let width : width_to end (drop at s) ≡ length bytes = ap (width_to end) split ∙ width_high end bytes (drop next s) low high in
      let long : length (drop at s) ≡ length bytes + suc (length (drop next s)) = ap length split ∙ length-append bytes (end ∷ drop next s) in
      let behind : at + length bytes + 1 ≡ next = sym (stands.after ∙ simp length-append (omega arith)) in
      let those : take (length bytes) (drop at s) ≡ bytes = ap (take (length bytes)) split ∙ take_at bytes (end ∷ drop next s) (length bytes) refl in
      simp (ne_eqb at 0 (λ e. omega arith), width, lt-leb (length s) (at + length bytes) (omega (arith, length-drop at s)))
      (ap (λ (p : ℕ). read p (take (length bytes) (drop at s))) behind ∙ ap (read next) those)

  -- any property of what is read: it holds where nothing is read, and where a field stands
  pub field_there : (P : A → Type 0) → P none
      → ((next : ℕ) (bytes : List ℕ) → 0 < at → Stands s at (bytes ++ (end ∷ [])) next → P (read next bytes)) → P (field_by none read s at end)
  unfolding field_by field_of
  field_there P nothing some = go (eqb at 0) refl (leb (length s) (at + width_to end (drop at s))) refl
    where
      go : (x : Bool) → eqb at 0 ≡ x → (y : Bool) → leb (length s) (at + width_to end (drop at s)) ≡ y
          → P (cond x none (cond y none (read (at + width_to end (drop at s) + 1) (take (width_to end (drop at s)) (drop at s)))))
      go true hx y hy = nothing
      go false hx true hy = nothing
      go false hx false hy =
          let width = width_to end (drop at s) in
          let inside : at + width < length s = leb-false (length s) (at + width) hy in
          let found : width < length (drop at s) = omega (arith, length-drop at s) in
          let one : at + suc width ≡ at + width + 1 = omega arith in
          let many : length (take width (drop at s)) ≡ width = simp length-take (omega arith) in
          some (at + width + 1) (take width (drop at s)) (positive at (eqb-false at 0 hx))
          record {
            here =
                width_split end (drop at s) found
                ∙ ap (λ (rest : List ℕ). take width (drop at s) ++ end ∷ rest) (drop-drop (suc width) at s ∙ ap (λ (p : ℕ). drop p s) one)
                ∙ sym (append_assoc (take width (drop at s)) (end ∷ []) (drop (at + width + 1) s));
            after = simp (length-append, many) (omega arith);
          }
