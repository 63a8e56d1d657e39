-- `statement_sub::put_sub` meets its contract: its fields, one after the other.
use Rattle.statement_format.specs.{joined}
use Rattle.statement_format.proofs.Residues.{sub_text_lem}
use Rattle.statement_field.proofs.Puts.{put_then, put_last}
use Rattle.statement_sub.proofs.put_sub.Goals as goal

pub returns : goal.returns
unfolding joined
returns c =
    let residue = c in
    let planted = residue in
    let forest = planted in
    let tenths = forest in
    let number = tenths in
    let letter = number in
    rw sub_text_lem
    (put_then letter.put_start-next.ensures
    (put_then number.put_short-next.ensures
    (put_then tenths.put_field-next.ensures
    (put_then forest.put_type-next.ensures
    (put_then planted.put_short-next-2.ensures
    (put_last residue.put_residue.ensures))))))
