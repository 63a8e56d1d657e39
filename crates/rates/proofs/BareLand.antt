-- Bare land has no column of the participant's and no place among the default's cells, so that its rate is 0.
use Rattle.laws.proofs.{ℕ, ◌≤◌, ◌≡◌, refl, sym, ap, ◌∙◌, List, [], arith, lit≤}
use Rattle.forest.specs.{Forest, letters_of}
use Rattle.units.specs.{Rate}
use Rattle.schedules.specs.{Kind, Column, listed, place_six}
use Rattle.text.specs.{width_to}
use Rattle.table_parts.specs.{column_number}
use Rattle.table_parts.proofs.Lengths.{no_length}
use Rattle.rates.specs.{own_number, at_place, cell_at, rate_six}
use Rattle.rates.proofs.LookUp.{without_cells, defaults}

past_ten : (kind : Kind) → 10 ≤ own_number kind Forest.Bare
unfolding column_number width_to letters_of
past_ten Kind.Stock = lit≤ tt
past_ten Kind.Residue = lit≤ tt

no_place_lem : (default : List ℕ) (kind : Kind) → at_place default (place_six kind Forest.Bare) ≡ listed 0 []
unfolding place_six
no_place_lem default Kind.Stock = refl
no_place_lem default Kind.Residue = refl

abbrev pub rate : ℕ → Rate
rate n = record { 0 = n }

pub none_on_bare : (own default : List ℕ) (kind : Kind) (age : ℕ) → rate 0 ≡ rate_six own default kind Forest.Bare age
unfolding rate_six
none_on_bare own default kind age =
    let without = defaults own default kind Forest.Bare (sym (no_length own (own_number kind Forest.Bare) (past_ten kind))) ∙ no_place_lem default kind in
    ap rate (without_cells 0 [] age (omega arith) refl ∙ sym (ap (λ (column : Column). cell_at column age) without))
