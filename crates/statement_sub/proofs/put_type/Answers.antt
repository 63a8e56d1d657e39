-- `statement_sub::put_type` meets its contract: the letters, one or two, and the byte that ends their field.
use Rattle.statement_format.specs.{type_text}
use Rattle.text.proofs.Writes.{wrote_as}
use Rattle.statement_field.proofs.Puts.{put_then, put_few, put_whole, put_one}
use Rattle.statement_sub.proofs.Letters.{letters_few}
use Rattle.statement_sub.proofs.put_type.Goals as goal

pub returns : goal.returns
unfolding type_text
returns c =
    put_then (put_few (letters_few c.args.forest) (put_whole (wrote_as c.write.ensures c.put_bytes-next.ensures))) (put_one c.put_byte.ensures)
