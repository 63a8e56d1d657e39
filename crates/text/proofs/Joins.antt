-- Fields whose joined bytes split into as many are the fields that they split into: each of them splits into one at least, and so into one.
use Rattle.laws.proofs.{ℕ, suc, ◌≤◌, ◌<◌, ◌≡◌, refl, ap, ◌∙◌, Bool, true, false, cond, List, [], ◌∷◌, ◌++◌, arith, eqb, length, length-append}
use Rattle.text.specs.{comma, extend, split, join, join_after}
use Rattle.text.proofs.Fields.{split-some, join-split}

extend-append : (b : ℕ) (fs gs : List (List ℕ)) → 0 < length fs → extend b (fs ++ gs) ≡ extend b fs ++ gs
unfolding extend
extend-append b [] gs h = absurd (omega arith)
extend-append b (f ∷ fs) gs h = refl

-- a comma parts any bytes
split_parts : (f rest : List ℕ) → split (f ++ comma ∷ rest) ≡ split f ++ split rest
unfolding split
split_parts [] rest = refl
split_parts (b ∷ f) rest = go (eqb b comma) (split_parts f rest)
  where
    go : (t : Bool) → split (f ++ comma ∷ rest) ≡ split f ++ split rest
        → cond t ([] ∷ split (f ++ comma ∷ rest)) (extend b (split (f ++ comma ∷ rest))) ≡ cond t ([] ∷ split f) (extend b (split f)) ++ split rest
    go true e = ap (λ (l : List (List ℕ)). [] ∷ l) e
    go false e = ap (extend b) e ∙ extend-append b (split f) (split rest) (split-some f)

-- bytes that split into one field are it
split-alone : (f : List ℕ) → length (split f) ≡ 1 → split f ≡ f ∷ []
unfolding join join_after
split-alone f e = go (split f) e (join-split f)
  where
    go : (fs : List (List ℕ)) → length fs ≡ 1 → join fs ≡ f → fs ≡ f ∷ []
    go [] e j = absurd (omega arith)
    go (g ∷ []) e j = ap (λ (l : List ℕ). l ∷ []) j
    go (g ∷ h ∷ fs) e j = absurd (omega arith)

split_least : (f : List ℕ) (fs : List (List ℕ)) → suc (length fs) ≤ length (split (join_after f fs))
unfolding join_after
split_least f [] = omega (arith, split-some f)
split_least f (g ∷ gs) =
    omega (arith, ap length (split_parts f (join_after g gs)), length-append (split f) (split (join_after g gs)), split-some f, split_least g gs)

split_after : (f : List ℕ) (fs : List (List ℕ)) → length (split (join_after f fs)) ≡ suc (length fs) → split (join_after f fs) ≡ f ∷ fs
unfolding join_after
split_after f [] e = split-alone f e
split_after f (g ∷ gs) e =
    let sum = ap length (split_parts f (join_after g gs)) ∙ length-append (split f) (split (join_after g gs)) in
    let one : length (split f) ≡ 1 = omega (arith, split-some f, split_least g gs) in
    let rest : length (split (join_after g gs)) ≡ suc (length gs) = omega arith in
    split_parts f (join_after g gs) ∙ ap (λ (l : List (List ℕ)). l ++ split (join_after g gs)) (split-alone f one)
    ∙ ap (λ (l : List (List ℕ)). f ∷ l) (split_after g gs rest)

pub split-joined : (fs : List (List ℕ)) → 0 < length fs → length (split (join fs)) ≡ length fs → split (join fs) ≡ fs
unfolding join
split-joined [] h e = absurd (omega arith)
split-joined (f ∷ fs) h e = split_after f fs e
