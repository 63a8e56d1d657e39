-- `line_area::area_and_year` meets its contract: the verdict, case by case, is that of the table.
use Rattle.laws.proofs.{lit<}
use Rattle.text_field.proofs.Laws.{count-found, field_found}
use Rattle.refusals.specs.{weigh_all, smallest}
use Rattle.line_entry.specs.{area_and_year}
use Rattle.line_entry.proofs.Laws.{number-found}
use Rattle.line_area.specs.{area_year}
use Rattle.line_area.proofs.area_and_year.Goals as goal

pub returns : goal.returns
unfolding area_year area_and_year smallest weigh_all
returns c =
    let scanned = c.scan-places.ensures in
    simp (
      c.value_u16-2.ensures,
      c.value_u16.ensures,
      c.weigh_year-v.ensures,
      c.weigh_area-v.ensures,
      c.weigh_form-v-2.ensures,
      c.weigh_form-v.ensures,
      c.weigh_letter-v.ensures,
      count-found _ _ scanned,
      field_found _ _ scanned 0 (lit< tt),
      number-found _ _ 1 _ scanned (lit< tt) c.number_at-area.ensures,
      number-found _ _ 2 _ scanned (lit< tt) c.number_at-year.ensures,
    )
