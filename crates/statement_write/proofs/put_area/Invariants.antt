-- `statement_write::put_area` meets its contract: the area's line, and the lines of its sub-areas. The loop's invariant: the lines before the i-th
-- sub-area's are put behind the area's.
use Rattle.laws.proofs.{◌*◌, take}
use Rattle.statement_format.specs.{texts, sub_text, sub_width}
use Rattle.statement_field.specs.{Put}
use Rattle.statement_write.proofs.put_area.Given as goal

abbrev pub invariant-loop-sub : goal.invariant-loop-sub
invariant-loop-sub l = Put (sub_width * l.sub-index) l.initial.out l.initial.next (texts sub_text (take l.sub-index l.sub-items)) l.out l.next
