-- `statement_carried::fields` meets its contract: a count past the sub-areas' places is refused before the product is taken.
use Rattle.laws.proofs.{le-leb, lt-leb}
use Rattle.laws.specs.{all_of}
use Rattle.statement_carried.specs.{fields_within}
use Rattle.statement_carried.proofs.fields.Goals as goal

pub returns-then-area-gt-MOST_SUBS : goal.returns-then-area-gt-MOST_SUBS
unfolding fields_within all_of
returns-then-area-gt-MOST_SUBS c = simp (lt-leb _ _ c.if-area-gt-MOST_SUBS.true)

pub returns : goal.returns
unfolding fields_within all_of
returns c = simp (c.amounts.ensures, c.years.ensures, c.is_area.ensures, le-leb _ _ c.if-area-gt-MOST_SUBS.false)
