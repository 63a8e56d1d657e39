-- `rates::own_stock` meets its contract: an arm's type has the arm's column.
use Rattle.laws.proofs.{sym, ap}
use Rattle.forest.specs.{letters_of}
use Rattle.schedules.specs.{Kind}
use Rattle.text.specs.{width_to}
use Rattle.table_parts.specs.{column_number}
use Rattle.rates.specs.{own_number}
use Rattle.rates.proofs.own_stock.Goals as goal

pub returns-in-Bare : goal.returns-in-Bare
unfolding column_number width_to letters_of
returns-in-Bare c = sym (ap (own_number Kind.Stock) c.in-Bare.is)

pub returns-in-Radiata : goal.returns-in-Radiata
unfolding column_number width_to letters_of
returns-in-Radiata c = sym (ap (own_number Kind.Stock) c.in-Radiata.is)

pub returns-in-DouglasFir : goal.returns-in-DouglasFir
unfolding column_number width_to letters_of
returns-in-DouglasFir c = sym (ap (own_number Kind.Stock) c.in-DouglasFir.is)

pub returns-in-ExoticSoftwoods : goal.returns-in-ExoticSoftwoods
unfolding column_number width_to letters_of
returns-in-ExoticSoftwoods c = sym (ap (own_number Kind.Stock) c.in-ExoticSoftwoods.is)

pub returns-in-ExoticHardwoods : goal.returns-in-ExoticHardwoods
unfolding column_number width_to letters_of
returns-in-ExoticHardwoods c = sym (ap (own_number Kind.Stock) c.in-ExoticHardwoods.is)

pub returns-in-Indigenous : goal.returns-in-Indigenous
unfolding column_number width_to letters_of
returns-in-Indigenous c = sym (ap (own_number Kind.Stock) c.in-Indigenous.is)
