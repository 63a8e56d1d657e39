-- `statement_sub::put_residue` meets its contract: its three fields, one after the other.
use Rattle.statement_format.specs.{joined, residue_text}
use Rattle.statement_field.proofs.Puts.{put_then, put_last}
use Rattle.statement_sub.proofs.put_residue.Goals as goal

pub returns : goal.returns
unfolding residue_text joined
returns c =
    let year = c in
    let age = year in
    let forest = age in
    put_then forest.put_type-next.ensures (put_then age.put_short-next.ensures (put_last year.put_short.ensures))
