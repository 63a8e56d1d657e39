-- `statement_write::put_amounts` meets its contract: its five fields, one after the other.
use Rattle.laws.proofs.{ℕ, ap}
use Rattle.statement_format.specs.{joined, number_text, amounts_text}
use Rattle.statement_field.proofs.Puts.{put_then, put_last, put_as}
use Rattle.statement_write.proofs.put_amounts.Goals as goal

pub returns : goal.returns
unfolding amounts_text joined
returns c =
    put_then (put_as (ap (λ (n : ℕ). number_text n 44) c.from-withdrawn.ensures) c.put_field-next.ensures)
    (put_then c.put_short-next.ensures
    (put_then c.put_field-next-2.ensures (put_then c.put_field-next-3.ensures (put_last c.put_field.ensures))))
