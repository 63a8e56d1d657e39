-- `sheet_write::put_field` meets its contract: the field in its quotes, and the comma.
use Rattle.laws.proofs.{ap}
use Rattle.text.proofs.Writes.{wrote_then, wrote_as}
use Rattle.sheet_write.specs.{quoted}
use Rattle.sheet_write.proofs.put_field.Goals as goal

pub returns : goal.returns
returns c =
    let put = c in
    wrote_then (wrote_as (ap quoted put.field.ensures) put.put_quoted-next.ensures) c.put_byte.ensures
