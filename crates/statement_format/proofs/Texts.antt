-- The texts of two lists, one behind the other, are the texts of both.
use Rattle.laws.proofs.{ℕ, ◌≡◌, refl, sym, ap, ◌∙◌, List, [], ◌∷◌, ◌++◌, append_assoc}
use Rattle.statement_format.specs.{texts}

pub texts-append : {A : Type 0} (text : A → List ℕ) (l m : List A) → texts text (l ++ m) ≡ texts text l ++ texts text m
unfolding texts
texts-append text [] m = refl
texts-append text (a ∷ l) m = ap (λ (r : List ℕ). text a ++ r) (texts-append text l m) ∙ sym (append_assoc (text a) (texts text l) (texts text m))
