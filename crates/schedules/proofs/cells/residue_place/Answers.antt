-- `schedules::cells::residue_place` meets its contract: for each type, the place is the column's, which antt computes.
use Rattle.schedules.specs.{joined, places_from, stock6, residue6, place_six, Kind}
use Rattle.schedules.proofs.Places.{of_type_lem, of_region}
use Rattle.schedules.proofs.cells.residue_place.Goals as goal

pub returns-in-Bare : goal.returns-in-Bare
unfolding place_six places_from stock6 joined residue6
returns-in-Bare c = of_type_lem Kind.Residue c.in-Bare.is

pub returns-in-Auckland : goal.returns-in-Auckland
unfolding place_six places_from stock6 joined residue6
returns-in-Auckland c = of_region Kind.Residue c.in-Radiata.is c.in-Auckland.is

pub returns-in-BayOfPlenty : goal.returns-in-BayOfPlenty
unfolding place_six places_from stock6 joined residue6
returns-in-BayOfPlenty c = of_region Kind.Residue c.in-Radiata.is c.in-BayOfPlenty.is

pub returns-in-CanterburyWestCoast : goal.returns-in-CanterburyWestCoast
unfolding place_six places_from stock6 joined residue6
returns-in-CanterburyWestCoast c = of_region Kind.Residue c.in-Radiata.is c.in-CanterburyWestCoast.is

pub returns-in-Gisborne : goal.returns-in-Gisborne
unfolding place_six places_from stock6 joined residue6
returns-in-Gisborne c = of_region Kind.Residue c.in-Radiata.is c.in-Gisborne.is

pub returns-in-HawkesBaySouthernNorthIsland : goal.returns-in-HawkesBaySouthernNorthIsland
unfolding place_six places_from stock6 joined residue6
returns-in-HawkesBaySouthernNorthIsland c = of_region Kind.Residue c.in-Radiata.is c.in-HawkesBaySouthernNorthIsland.is

pub returns-in-NelsonMarlborough : goal.returns-in-NelsonMarlborough
unfolding place_six places_from stock6 joined residue6
returns-in-NelsonMarlborough c = of_region Kind.Residue c.in-Radiata.is c.in-NelsonMarlborough.is

pub returns-in-Otago : goal.returns-in-Otago
unfolding place_six places_from stock6 joined residue6
returns-in-Otago c = of_region Kind.Residue c.in-Radiata.is c.in-Otago.is

pub returns-in-Southland : goal.returns-in-Southland
unfolding place_six places_from stock6 joined residue6
returns-in-Southland c = of_region Kind.Residue c.in-Radiata.is c.in-Southland.is

pub returns-in-WaikatoTaupo : goal.returns-in-WaikatoTaupo
unfolding place_six places_from stock6 joined residue6
returns-in-WaikatoTaupo c = of_region Kind.Residue c.in-Radiata.is c.in-WaikatoTaupo.is

pub returns-in-DouglasFir : goal.returns-in-DouglasFir
unfolding place_six places_from stock6 joined residue6
returns-in-DouglasFir c = of_type_lem Kind.Residue c.in-DouglasFir.is

pub returns-in-ExoticSoftwoods : goal.returns-in-ExoticSoftwoods
unfolding place_six places_from stock6 joined residue6
returns-in-ExoticSoftwoods c = of_type_lem Kind.Residue c.in-ExoticSoftwoods.is

pub returns-in-ExoticHardwoods : goal.returns-in-ExoticHardwoods
unfolding place_six places_from stock6 joined residue6
returns-in-ExoticHardwoods c = of_type_lem Kind.Residue c.in-ExoticHardwoods.is

pub returns-in-Indigenous : goal.returns-in-Indigenous
unfolding place_six places_from stock6 joined residue6
returns-in-Indigenous c = of_type_lem Kind.Residue c.in-Indigenous.is
