-- The texts of a list, put a text a turn: before the i-th turn those of the first i are put. And those of what stands in an array, its first n elements.
use Rattle.laws.proofs.{ℕ, ◌+◌, ◌*◌, ◌≤◌, ◌<◌, ◌≡◌, sym, ap, ◌∙◌, List, [], ◌∷◌, ◌++◌, append-nil, arith, add-one, length, take, get_or, length-take, take-suc, take_all, get_or-take}
use Rattle.statement_format.specs.{texts}
use Rattle.statement_format.proofs.Texts.{texts-append}
use Rattle.statement_field.specs.{Put}
use Rattle.statement_field.proofs.Puts.{put_then, put_as, put_within}

module _ {A : Type 0} (f : A → List ℕ) (l : List A) (i : ℕ) where
  texts-next : (d : A) → i < length l → texts f (take i l) ++ f (get_or l i d) ≡ texts f (take (i + 1) l)
  unfolding texts
  texts-next d h =
      let e : take (i + 1) l ≡ take i l ++ (get_or l i d ∷ []) = rw (add-one, take-suc l i d h) in
      sym
      (ap (texts f) e ∙ texts-append f (take i l) (get_or l i d ∷ [])
      ∙ ap (λ (t : List ℕ). texts f (take i l) ++ t) (append-nil (f (get_or l i d))))

  module _ (j : ℕ) {out : List ℕ} {at : ℕ} {o : List ℕ} {p : ℕ} (a : Put (j * i) out at (texts f (take i l)) o p) where
    pub put_item : (d : A) {o' : List ℕ} {p' : ℕ} → i < length l → Put j o p (f (get_or l i d)) o' p' → Put (j * (i + 1)) out at (texts f (take (i + 1) l)) o' p'
    put_item d h b = put_within (omega arith) (put_as (texts-next d h) (put_then a b))

    -- past the last, all is put
    pub put_items : length l ≤ i → Put (j * i) out at (texts f l) o p
    put_items h = put_as (ap (texts f) (take_all i l h)) a

module _ {A : Type 0} (f : A → List ℕ) (l : List A) (n i : ℕ) (j : ℕ) {out : List ℕ} {at : ℕ} {o : List ℕ} {p : ℕ} (a : Put (j * i) out at (texts f (take i (take n l))) o p) where
  pub put_next : (d : A) {o' : List ℕ} {p' : ℕ} → i < n → i < length l → Put j o p (f (get_or l i d)) o' p'
      → Put (j * (i + 1)) out at (texts f (take (i + 1) (take n l))) o' p'
  put_next d u v b = put_item f (take n l) i j a d (simp length-take (omega arith)) (put_as (ap f (sym (get_or-take n l i d u))) b)

  -- past the part that stands, or past the array, all is put
  pub put_end : n ≤ i → Put (j * i) out at (texts f (take n l)) o p
  put_end h = put_items f (take n l) i j a (simp length-take (omega arith))

  pub put_out : length l ≤ i → Put (j * i) out at (texts f (take n l)) o p
  put_out h = put_items f (take n l) i j a (simp length-take (omega arith))
