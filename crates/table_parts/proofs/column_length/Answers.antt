-- `table_parts::column_length` meets its contract: what is no column has no length.
use Rattle.laws.proofs.{ℕ, ap, ◌∙◌, List, arith, get_or}
use Rattle.std.specs.Prelude.{Option}
use Rattle.std.specs.Option.{unwrap_or}
use Rattle.table_parts.specs.{length_of}
use Rattle.table_parts.proofs.column_length.Goals as goal

pub returns : goal.returns
unfolding length_of
returns c =
    let number = c.args.number in
    c.unwrap_or.ensures ∙ ap (λ (o : Option ℕ). unwrap_or o 0) c.copied.ensures ∙ c.get.ensures.lookup.4 (omega arith) 0
    ∙ ap (λ (s : List ℕ). get_or s number 0) c.part-lengths.ensures
