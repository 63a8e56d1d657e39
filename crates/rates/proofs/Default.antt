-- Where Schedule 6 and Schedule 4 are what is lent, a type's part is its column of the schedule.
use Rattle.laws.proofs.{◌≡◌, cond, List, ℕ, eqb}
use Rattle.forest.specs.{Forest}
use Rattle.schedules.specs.{Kind, Place, Column, listed, schedule4, schedule6, column_four, column_six, place_four, place_six}
use Rattle.schedules.proofs.Parts.{Holds, four_holds, six_holds}
use Rattle.table_parts.specs.{length_of}
use Rattle.table_lent.specs.{own_column}
use Rattle.rates.specs.{own_number, at_place, consulted}

held_column : (cells : List ℕ) (p : Place) (column : Column) → Holds cells p column → at_place cells p ≡ column
held_column cells p column h = λ i. record { first = h.first i; cells = h.part i }

pub four_column : (forest : Forest) → at_place schedule4 (place_four forest) ≡ column_four forest
four_column forest = held_column schedule4 (place_four forest) (column_four forest) (four_holds forest)

-- "the participant's, or the default one where that length is 0", the default being Schedule 6's
pub six_column : (own : List ℕ) (kind : Kind) (forest : Forest)
    → consulted own schedule6 kind forest
    ≡ cond (eqb (length_of own (own_number kind forest)) 0) (column_six kind forest) (listed 0 (own_column own (own_number kind forest)))
unfolding consulted
six_column own kind forest = rw (held_column schedule6 (place_six kind forest) (column_six kind forest) (six_holds kind forest))
