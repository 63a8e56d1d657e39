-- In a table of cases whose numbers do not fall, the first case that applies has the smallest number of all that apply:
-- what stands before it does not apply, and what stands behind it has no smaller number.
use Rattle.std.specs.Prelude.{Ok, Err}
use Rattle.laws.proofs.{ℕ, ◌≤◌, Bool, true, false, ◌&&◌, ◌≡◌, refl, sym, ap, ◌∙◌, List, [], ◌∷◌, arith, leb-true, leb}
use Rattle.refusals.specs.{Refusal, number_of, Case, weighed, weigh_all, smallest}

-- no case that applies has a number below n
unfoldable pub Least : ℕ → List Case → Type 0
Least n [] = Unit
Least n (c ∷ cs) = (c.applies ≡ true → n ≤ number_of c.refusal) × Least n cs

-- the numbers do not fall, from n on
unfoldable pub Rising : ℕ → List Case → Type 0
Rising n [] = Unit
Rising n (c ∷ cs) = (n ≤ number_of c.refusal) × Rising (number_of c.refusal) cs

pub turned_stands : (r : Refusal) (cs : List Case) → weigh_all (Err r) cs ≡ Err r
unfolding weigh_all weighed
turned_stands r [] = refl
turned_stands r (c ∷ cs) = turned_stands r cs

rising_least : (m n : ℕ) (cs : List Case) → m ≤ n → Rising n cs → Least m cs
unfolding Least Rising
rising_least m n [] h p = tt
rising_least m n (c ∷ cs) h p =
    let q = p.0 in ((λ a. omega arith), rising_least m (number_of c.refusal) cs (omega arith) p.1)

pub first_is_smallest : (n : ℕ) (cs : List Case) (r : Refusal) → Rising n cs → smallest cs ≡ Err r → Least (number_of r) cs
unfolding smallest weigh_all weighed Least Rising
first_is_smallest n [] r p e = tt
first_is_smallest n (c ∷ cs) r p e = go c.applies refl e (first_is_smallest (number_of c.refusal) cs r p.1)
  where
    go : (x : Bool) → c.applies ≡ x → weigh_all (weighed (Ok tt) x c.refusal) cs ≡ Err r → (weigh_all (Ok tt) cs ≡ Err r → Least (number_of r) cs)
        → (c.applies ≡ true → number_of r ≤ number_of c.refusal) × Least (number_of r) cs
    go true a e rest =
        let s : c.refusal ≡ r = cc (turned_stands c.refusal cs) in
        let k : number_of c.refusal ≡ number_of r = ap number_of s in
        ((λ b. omega arith), rising_least (number_of r) (number_of c.refusal) cs (omega arith) p.1)
    go false a e rest = ((λ b. absurd (let z : ◌≡◌ {A = Bool} true false = sym b ∙ a in let y : ◌≡◌ {A = ℕ} 0 1 = cc in omega arith)), rest e)

-- that the numbers of a table do not fall is computed, whatever its conditions are
unfoldable pub rises : ℕ → List Case → Bool
rises n [] = true
rises n (c ∷ cs) = leb n (number_of c.refusal) && rises (number_of c.refusal) cs

pub rising : (n : ℕ) (cs : List Case) → rises n cs ≡ true → Rising n cs
unfolding rises Rising
rising n [] e = tt
rising n (c ∷ cs) e = go (leb n (number_of c.refusal)) refl e (rising (number_of c.refusal) cs)
  where
    go : (x : Bool) → leb n (number_of c.refusal) ≡ x → x && rises (number_of c.refusal) cs ≡ true
        → (rises (number_of c.refusal) cs ≡ true → Rising (number_of c.refusal) cs)
        → (n ≤ number_of c.refusal) × Rising (number_of c.refusal) cs
    go true p e later = (leb-true n (number_of c.refusal) p, later e)
    go false p e later = let z : ◌≡◌ {A = ℕ} 0 1 = cc in absurd (omega arith)
