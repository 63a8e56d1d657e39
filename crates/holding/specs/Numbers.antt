-- The numbers that areas bear.
use Rattle.laws.specs.{ℕ, List, map}
use Rattle.holding.specs.declared.Area.{Area}

abbrev pub numbers_in : List Area → List ℕ
numbers_in areas = map (λ (a : Area). a.number) areas
