-- Of two verdicts the smaller: it is one of the two, no refusal among them has a smaller number, and it is clear just when both are.
use Rattle.std.specs.Prelude.{Ok, Err}
use Rattle.laws.proofs.{ℕ, suc, ◌≤◌, ◌<◌, ◌≡◌, refl, sym, ◌∙◌, Bool, true, false, cond, List, [], ◌∷◌, ◌⊎◌, inl, inr, ⊎_elim, arith, leb-true, leb-false, le-leb, lt-leb, leb}
use Rattle.refusals.specs.{Refusal, Verdict, number_of, Case, smallest, smaller}
use Rattle.refusals.proofs.Laws.{RuledOut, ruled_out}
use Rattle.refusals.proofs.Smallest.{Least, rises, rising, first_is_smallest}

-- the two are known
module _ (a b : Verdict) (first second : Refusal) (p : a ≡ Err first) (q : b ≡ Err second) where
  pub first_least : number_of first ≤ number_of second → Err first ≡ smaller a b
  first_least h = rw (p, q) (simp (le-leb (number_of first) (number_of second) h))

  pub second_least : number_of second < number_of first → Err second ≡ smaller a b
  second_least h = rw (p, q) (simp (lt-leb (number_of first) (number_of second) h))

pub only_first : (a b : Verdict) (first : Refusal) → a ≡ Err first → b ≡ Ok tt → Err first ≡ smaller a b
only_first a b first p q = rw (p, q)

-- a verdict that is clear, or has no number below n
abbrev pub From : ℕ → Verdict → Type 0
From n (Ok _) = Unit
From n (Err r) = n ≤ number_of r

pub from_less : (m n : ℕ) (v : Verdict) → m ≤ n → From n v → From m v
from_less m n (Ok _) h f = tt
from_less m n (Err r) h f = let g : n ≤ number_of r = f in omega arith

pub from_both : (n : ℕ) (a b : Verdict) → From n (smaller a b) → From n a × From n b
from_both n (Ok _) b f = (tt, f)
from_both n (Err r) (Ok _) f = (f, tt)
from_both n (Err r) (Err s) f = go (leb (number_of r) (number_of s)) refl f
  where
    go : (t : Bool) → leb (number_of r) (number_of s) ≡ t → From n (cond t (Err r) (Err s)) → (n ≤ number_of r) × (n ≤ number_of s)
    go true h f = let g : n ≤ number_of r = f in (g, omega (arith, leb-true (number_of r) (number_of s) h))
    go false h f = let g : n ≤ number_of s = f in (omega (arith, leb-false (number_of r) (number_of s) h), g)

pub one_of : (a b : Verdict) → (smaller a b ≡ a) ⊎ (smaller a b ≡ b)
one_of (Ok _) b = inr refl
one_of (Err r) (Ok _) = inl refl
one_of (Err r) (Err s) = go (leb (number_of r) (number_of s))
  where
    go : (t : Bool) → ◌≡◌ {A = Verdict} (cond t (Err r) (Err s)) (Err r) ⊎ ◌≡◌ {A = Verdict} (cond t (Err r) (Err s)) (Err s)
    go true = inl refl
    go false = inr refl

pub among : (a b v : Verdict) (P : Type 0) → (b ≡ v → P) → smaller a b ≡ v → (a ≡ v) ⊎ P
among a b v P f e =
    ⊎_elim (λ (p : smaller a b ≡ a). inl (sym p ∙ e)) (λ (p : smaller a b ≡ b). inr (f (sym p ∙ e))) (one_of a b)

pub smaller_clear : (a b : Verdict) → smaller a b ≡ Ok tt → (a ≡ Ok tt) × (b ≡ Ok tt)
smaller_clear (Ok _) b e = (refl, e)
smaller_clear (Err r) (Ok _) e = (e, refl)
smaller_clear (Err r) (Err s) e = go (leb (number_of r) (number_of s)) e
  where
    go : (t : Bool) → ◌≡◌ {A = Verdict} (cond t (Err r) (Err s)) (Ok tt) → (◌≡◌ {A = Verdict} (Err r) (Ok tt)) × (◌≡◌ {A = Verdict} (Err s) (Ok tt))
    go true e = let z : ◌≡◌ {A = ℕ} 0 1 = cc in absurd (omega arith)
    go false e = let z : ◌≡◌ {A = ℕ} 0 1 = cc in absurd (omega arith)

-- a refusal whose number none of the others goes below
pub smaller-first : (r : Refusal) (v : Verdict) → From (number_of r) v → smaller (Err r) v ≡ Err r
smaller-first r (Ok _) f = refl
smaller-first r (Err s) f = simp (le-leb (number_of r) (number_of s) f)

pub smaller-from : (n : ℕ) (a b : Verdict) → From n a → From n b → From n (smaller a b)
smaller-from n (Ok _) b f g = g
smaller-from n (Err r) (Ok _) f g = f
smaller-from n (Err r) (Err s) f g = go (leb (number_of r) (number_of s))
  where
    go : (t : Bool) → From n (cond t (Err r) (Err s))
    go true = f
    go false = g

-- ---- the smallest of a table of cases, as one of the two

least_less : (m n : ℕ) (cs : List Case) → m ≤ n → Least n cs → Least m cs
unfolding Least
least_less m n [] h l = tt
least_less m n (c ∷ cs) h l = ((λ a. let k : n ≤ number_of c.refusal = l.0 a in omega arith), least_less m n cs h l.1)

none_least : (n : ℕ) (cs : List Case) → RuledOut cs → Least n cs
unfolding Least
none_least n [] out = tt
none_least n (c ∷ cs) out = (
  (λ a. absurd (let z : ◌≡◌ {A = Bool} true false = sym a ∙ out 0 in let y : ◌≡◌ {A = ℕ} 0 1 = cc in omega arith)),
  none_least n cs (λ i. out (suc i)),
)

-- a verdict with no number below n says so of the cases that it was weighed from
pub least_from : (n : ℕ) (cs : List Case) → rises 0 cs ≡ true → From n (smallest cs) → Least n cs
least_from n cs e from = go (smallest cs) refl from
  where
    go : (v : Verdict) → smallest cs ≡ v → From n v → Least n cs
    go (Ok _) clear f = none_least n cs (ruled_out cs clear)
    go (Err r) given f = least_less n (number_of r) cs f (first_is_smallest 0 cs r (rising 0 cs e) given)
