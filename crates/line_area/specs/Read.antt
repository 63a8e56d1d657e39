-- What the code reads of an area and a year before it takes the entry.
use Rattle.laws.specs.{ℕ, List}
use Rattle.text_value.specs.{fitted}
use Rattle.refusals.specs.{smallest}
use Rattle.line_entry.specs.{number_at, area_and_year}
use Rattle.line_area.specs.declared.AreaAndYear.{AreaAndYear}

unfoldable pub area_year : ℕ → List (List ℕ) → AreaAndYear
area_year letter fs = record { verdict = smallest (area_and_year letter fs); area = fitted 65535 (number_at fs 1); year = fitted 65535 (number_at fs 2) }
