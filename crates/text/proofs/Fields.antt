-- Fields: joined fields are split again, what is split is joined again, and where a field ends is known the fields are it and the rest.
use Rattle.laws.proofs.{ℕ, ◌+◌, ◌-◌, ◌≤◌, ◌<◌, ◌≡◌, refl, sym, ap, ◌∙◌, Bool, true, false, cond, List, [], ◌∷◌, ◌++◌, ⊎_elim, arith, eqb, length, take, drop, drop_of_length-le, ne_eqb, eqb-true}
use lib.Seq.{take-nil}
use Rattle.laws.proofs.Order.{below_or_not}
use Rattle.text.specs.{comma, width_to, extend, split, join_after, join, Plain, AllPlain}
use Rattle.text.proofs.Widths.{part-ended, part_last}

-- ---- the round trips

pub split_plain : (f : List ℕ) → Plain f → split f ≡ f ∷ []
unfolding split extend Plain
split_plain [] h = refl
split_plain (b ∷ f) h = simp (ne_eqb b comma h.0) (ap (extend b) (split_plain f h.1))

pub split-front : (f rest : List ℕ) → Plain f → split (f ++ comma ∷ rest) ≡ f ∷ split rest
unfolding split extend Plain
split-front [] rest h = refl
split-front (b ∷ f) rest h = simp (ne_eqb b comma h.0) (ap (extend b) (split-front f rest h.1))

split_after : (f : List ℕ) (fs : List (List ℕ)) → Plain f → AllPlain fs → split (join_after f fs) ≡ f ∷ fs
unfolding join_after AllPlain
split_after f [] h hs = split_plain f h
split_after f (g ∷ gs) h hs = split-front f (join_after g gs) h ∙ ap (λ (l : List (List ℕ)). f ∷ l) (split_after g gs hs.0 hs.1)

pub split-join : (fs : List (List ℕ)) → 0 < length fs → AllPlain fs → split (join fs) ≡ fs
unfolding join AllPlain
split-join [] h hs = absurd (omega arith)
split-join (f ∷ fs) h hs = split_after f fs hs.0 hs.1

pub split-some : (s : List ℕ) → 0 < length (split s)
unfolding split extend
split-some [] = omega arith
split-some (b ∷ s) = go (eqb b comma) (split s)
  where
    go : (x : Bool) (t : List (List ℕ)) → 0 < length (cond x ([] ∷ t) (extend b t))
    go true t = omega arith
    go false [] = omega arith
    go false (f ∷ fs) = omega arith

pub join-extend : (b : ℕ) (fs : List (List ℕ)) → join (extend b fs) ≡ b ∷ join fs
unfolding join extend join_after
join-extend b [] = refl
join-extend b (f ∷ []) = refl
join-extend b (f ∷ g ∷ fs) = refl

pub join-split : (s : List ℕ) → join (split s) ≡ s
unfolding split join join_after
join-split [] = refl
join-split (b ∷ s) = go (eqb b comma) refl (split s) (split-some s) (join-split s)
  where
    go : (x : Bool) → eqb b comma ≡ x → (t : List (List ℕ)) → 0 < length t → join t ≡ s → join (cond x ([] ∷ t) (extend b t)) ≡ b ∷ s
    go true q [] h ih = absurd (omega arith)
    go true q (g ∷ gs) h ih = let e : comma ≡ b = sym (eqb-true b comma q) in cc
    go false q t h ih = join-extend b t ∙ ap (λ (l : List ℕ). b ∷ l) ih

-- ---- the fields from `start` on, where `end` ends the first of them

module _ (s : List ℕ) (start end : ℕ) (e : end ≡ start + width_to comma (drop start s)) where
  pub field-comma : start ≤ length s → end < length s → split (drop start s) ≡ take (end - start) (drop start s) ∷ split (drop (end + 1) s)
  unfolding split
  field-comma h l = part-ended comma split (λ b t. refl) s start end e h l

  pub field_last : start ≤ length s → length s ≤ end → end ≤ length s → split (drop start s) ≡ take (end - start) (drop start s) ∷ []
  unfolding split extend
  field_last h l u =
      ⊎_elim
      (λ some. part_last comma split (λ b t. refl) s start end e (λ b. refl) some l)
      (λ none. rw (drop_of_length-le s none) (ap (λ (t : List ℕ). t ∷ []) (sym (take-nil (end - start)))))
      (below_or_not start (length s))
