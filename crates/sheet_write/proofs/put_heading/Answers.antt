-- `sheet_write::put_heading` meets its contract: the bytes of the heading's row are these.
use Rattle.laws.proofs.{rules}
use Rattle.text.specs.{join, join_after}
use Rattle.sheet_write.specs.{doubled, quoted, row_text}
use Rattle.sheet_write.proofs.put_heading.Goals as goal

pub returns : goal.returns
unfolding row_text join join_after quoted doubled
returns c = search rules
