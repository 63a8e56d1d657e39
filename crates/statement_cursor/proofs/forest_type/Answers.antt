-- `statement_cursor::forest_type` meets its contract, by the tests on the place and the end, and by what the bytes before the end name.
use Rattle.laws.proofs.{sym, ◌∙◌}
use Rattle.statement_cursor.specs.{type_before, type_at}
use Rattle.statement_cursor.proofs.Fields.{field_nowhere, field_unended, type_read}
use Rattle.statement_cursor.proofs.forest_type.Goals as goal

pub returns-then-at-eq0 : goal.returns-then-at-eq0
unfolding type_at
returns-then-at-eq0 c = field_nowhere _ _ _ _ _ c.if-at-eq0.true

pub returns-then-s-stop : goal.returns-then-s-stop
unfolding type_at
returns-then-s-stop c = field_unended _ _ _ _ _ _ c.if-at-eq0.false c.end_of-stop.ensures c.if-s-stop.true

pub returns-in-Some : goal.returns-in-Some
unfolding type_before
returns-in-Some c =
    type_read _ _ _ _ _ c.if-at-eq0.false c.end_of-stop.ensures c.if-s-stop.false (sym c.read.ensures ∙ c.in-Some.is)

pub returns-in-None : goal.returns-in-None
unfolding type_before
returns-in-None c =
    type_read _ _ _ _ _ c.if-at-eq0.false c.end_of-stop.ensures c.if-s-stop.false (sym c.read.ensures ∙ c.in-None.is)
