-- The units of all areas: "units received, units surrendered and balance over all areas, withdrawn ones included".
use Rattle.laws.specs.{ℕ, List, sum_by}
use Rattle.holding.specs.{Area, Holding, areas_of}
use Rattle.holding_look.specs.Standing.{balance_of}
use Rattle.holding_look.specs.declared.Units.{Units}

abbrev pub units_received : Area → ℕ
units_received area = area.received

abbrev pub units_surrendered : Area → ℕ
units_surrendered area = area.surrendered

abbrev pub units_in : List Area → Units
units_in areas = record { received = sum_by units_received areas; surrendered = sum_by units_surrendered areas; balance = sum_by balance_of areas }

abbrev pub units_of : Holding → Units
units_of holding = units_in (areas_of holding)
