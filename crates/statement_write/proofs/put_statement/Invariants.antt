-- `statement_write::put_statement` meets its contract: the first line, and the lines of the areas. The loop's invariant: the lines before the i-th area's are
-- put behind the first.
use Rattle.laws.proofs.{◌*◌, take}
use Rattle.statement_format.specs.{texts, area_text, area_width}
use Rattle.statement_field.specs.{Put}
use Rattle.statement_write.proofs.put_statement.Given as goal

abbrev pub invariant-loop-area : goal.invariant-loop-area
invariant-loop-area l = Put (area_width * l.area-index) l.initial.out l.initial.next (texts area_text (take l.area-index l.area-items)) l.out l.next
