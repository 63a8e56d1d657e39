-- `sheet_import::import` meets its contract. Four loops: the areas are read and judged, the rows taken, and the new statement measured and written.
use Rattle.laws.proofs.{◌-◌, ◌*◌, ◌≤◌, ◌≡◌, length, take, drop}
use Rattle.holding.specs.{most_areas, numbers_in}
use Rattle.statement_format.specs.{texts, area_text, area_width}
use Rattle.statement_field.specs.{Put}
use Rattle.sheet_read.specs.{rows_of}
use Rattle.sheet_import.specs.{import_rows}
use Rattle.sheet_import.proofs.Reading as reading
use Rattle.sheet_import.proofs.Standing.{standing}
use Rattle.sheet_import.proofs.import.Given as goal

abbrev pub invariant-loop-i : goal.invariant-loop-i
invariant-loop-i l = reading.Reading l.statement l.initial.next l.count l.areas l.numbers l.kept l.next l.i

abbrev pub invariant-loop-at : goal.invariant-loop-at
invariant-loop-at l =
    (length l.areas ≡ most_areas) × (l.numbers ≡ numbers_in l.areas)
    × (import_rows l.own (standing l.initial.count l.initial.areas) (standing l.count l.areas) (rows_of (drop l.at l.sheet))
    ≡ import_rows l.own (standing l.initial.count l.initial.areas) (standing l.initial.count l.initial.areas) (rows_of (drop l.initial.at l.sheet)))

abbrev pub decreases-loop-at : goal.decreases-loop-at
decreases-loop-at l = length l.sheet - l.at

abbrev pub invariant-loop-j : goal.invariant-loop-j
invariant-loop-j l = (l.j ≤ most_areas) × Put (area_width * l.j) l.initial.unkept l.initial.need (texts area_text (take l.j (take l.count l.areas))) l.unkept l.need

abbrev pub invariant-loop-k : goal.invariant-loop-k
invariant-loop-k l = (l.k ≤ most_areas) × Put (area_width * l.k) l.initial.out l.initial.end (texts area_text (take l.k (take l.count l.areas))) l.out l.end
