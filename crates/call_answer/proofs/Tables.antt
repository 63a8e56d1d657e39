-- Tables of cases whose numbers lie from a number on, or up to one, but for cases that do not apply: so does the refusal given.
use Rattle.std.specs.Prelude.{Ok, Err}
use Rattle.laws.proofs.{ℕ, ◌≤◌, ◌≡◌, sym, ap, ◌∙◌, Bool, true, false, not, ◌&&◌, ◌||◌, List, [], ◌∷◌, arith, leb-true, leb}
use Rattle.laws.proofs.Elements.{or_none}
use Rattle.laws.proofs.Lists.{and_left, and_right}
use Rattle.refusals.specs.{Refusal, Verdict, number_of, Case, weighed, weigh_all, smallest}
use Rattle.refusals.proofs.Smallest.{turned_stands}
use Rattle.step_outcome.specs.{Outcome, answered}
use Rattle.step_outcome.proofs.Laws.{answered-verdict}
use Rattle.refusals.proofs.Smaller.{From}

unfoldable pub starts_at : ℕ → List Case → Bool
starts_at n [] = true
starts_at n (c ∷ cs) = (leb n (number_of c.refusal) || not c.applies) && starts_at n cs

pub starts_from_lem : (n : ℕ) (cs : List Case) → starts_at n cs ≡ true → From n (smallest cs)
unfolding starts_at smallest weigh_all weighed
starts_from_lem n [] e = tt
starts_from_lem n (c ∷ cs) e = go c.applies (and_left first (starts_at n cs) e) (starts_from_lem n cs (and_right first (starts_at n cs) e))
  where
    first : Bool
    first = leb n (number_of c.refusal) || not c.applies

    go : (t : Bool) → (leb n (number_of c.refusal) || not t) ≡ true → From n (weigh_all (Ok tt) cs) → From n (weigh_all (weighed (Ok tt) t c.refusal) cs)
    go true h rest = rw (turned_stands c.refusal cs) (leb-true n (number_of c.refusal) (sym (or_none (leb n (number_of c.refusal))) ∙ h))
    go false h rest = rest

-- one case more
pub weighed-from : (n : ℕ) (v : Verdict) (b : Bool) (r : Refusal) → From n v → n ≤ number_of r → From n (weighed v b r)
unfolding weighed
weighed-from n (Err s) b r f h = f
weighed-from n (Ok _) true r f h = h
weighed-from n (Ok _) false r f h = tt

pub answered-from : (n : ℕ) (cs : List Case) (outcome : Outcome) → outcome.verdict ≡ Ok tt → starts_at n cs ≡ true
    → From n (answered (smallest cs) outcome).verdict
answered-from n cs outcome e s = rw (answered-verdict (smallest cs) outcome e) (starts_from_lem n cs s)

unfoldable pub ends_at : ℕ → List Case → Bool
ends_at n [] = true
ends_at n (c ∷ cs) = leb (number_of c.refusal) n && ends_at n cs

pub ends_by : (n : ℕ) (cs : List Case) (r : Refusal) → ends_at n cs ≡ true → smallest cs ≡ Err r → number_of r ≤ n
unfolding ends_at smallest weigh_all weighed
ends_by n [] r e q = let z : ◌≡◌ {A = ℕ} 0 1 = cc in absurd (omega arith)
ends_by n (c ∷ cs) r e q = go c.applies q (ends_by n cs r (and_right (leb (number_of c.refusal) n) (ends_at n cs) e))
  where
    go : (t : Bool) → weigh_all (weighed (Ok tt) t c.refusal) cs ≡ Err r → (weigh_all (Ok tt) cs ≡ Err r → number_of r ≤ n) → number_of r ≤ n
    go true q rest =
        let same : c.refusal ≡ r = cc (turned_stands c.refusal cs) in
        omega (arith, leb-true (number_of c.refusal) n (and_left (leb (number_of c.refusal) n) (ends_at n cs) e), ap number_of same)
    go false q rest = rest q
