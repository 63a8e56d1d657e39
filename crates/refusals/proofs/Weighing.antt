-- Cases weighed one after the other, each by a call of its own: a case that refuses is the answer, and one that does not leaves the answer to those behind it.
use Rattle.std.specs.Prelude.{Ok, Err}
use Rattle.laws.proofs.{Bool, ◌≡◌, refl, sym, ap, ◌∙◌, List, [], ◌∷◌}
use Rattle.refusals.specs.{Refusal, Verdict, Case, ◌⇒◌, weighed, weigh_all, smallest}

stays : (refusal : Refusal) (cs : List Case) → Err refusal ≡ weigh_all (Err refusal) cs
unfolding weigh_all weighed
stays refusal [] = refl
stays refusal (c ∷ cs) = stays refusal cs

-- the verdict of one case
module _ (b : Bool) (r : Refusal) (v : Verdict) (one : v ≡ weighed (Ok tt) b r) where
  pub refuses : (cs : List Case) (refusal : Refusal) → v ≡ Err refusal → Err refusal ≡ smallest (b ⇒ r ∷ cs)
  unfolding weigh_all smallest
  refuses cs refusal e = stays refusal cs ∙ ap (λ (w : Verdict). weigh_all w cs) (sym e ∙ one)

  pub passes : (cs : List Case) (answer : Verdict) → v ≡ Ok tt → answer ≡ smallest cs → answer ≡ smallest (b ⇒ r ∷ cs)
  unfolding weigh_all smallest
  passes cs answer e rest = rest ∙ ap (λ (w : Verdict). weigh_all w cs) (sym e ∙ one)

  pub ends : v ≡ smallest (b ⇒ r ∷ [])
  unfolding weigh_all smallest
  ends = one
