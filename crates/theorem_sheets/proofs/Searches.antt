-- Where the numbers that stand in two arrays are the same, as many stand.
use Rattle.laws.proofs.{ℕ, ◌≤◌, ◌≡◌, sym, ap, ◌∙◌, List, map, length, take, length-map}
use Rattle.theorem_keeping.specs.{Tidy}
use Rattle.theorem_round_trips.proofs.Arrays.{tidy-taken}

module _ {A : Type 0} (number_of : A → ℕ) where
  module _ {empty : A} {places c d : ℕ} {l m : List A} where
    pub many_same : c ≤ places → Tidy empty places c l → d ≤ places → Tidy empty places d m → map number_of (take c l) ≡ map number_of (take d m) → c ≡ d
    many_same p s q t e =
        sym (tidy-taken empty places c l p s) ∙ sym (length-map (take c l) number_of) ∙ ap length e
        ∙ length-map (take d m) number_of ∙ tidy-taken empty places d m q t
