-- `table_bytes::decode` meets its contract: where nothing refuses there is room for the numbers.
use Rattle.laws.proofs.{sym, ◌∙◌, arith, length}
use Rattle.laws.proofs.Stores.{stored-in_front}
use Rattle.table_bytes.specs.{numbers_of}
use Rattle.table_bytes.proofs.Numbers.{number-count, clear_decodable, all_clear}
use Rattle.refusals.proofs.Answers.{when_clear}
use Rattle.table_bytes.proofs.decode.Goals as goal

pub returns : goal.returns
returns c =
    let bytes = c.args.bytes.now in
    let out = c.args.out.now in
    let clear =
    all_clear bytes (length out) (sym c.refuse_if.ensures ∙ c.in_ok-refuse_if.was) (sym c.refuse_if-2.ensures ∙ c.in_ok-refuse_if-2.was)
    (sym c.refuse_if-3.ensures ∙ c.in_ok-refuse_if-3.was)
    in
    let room = (clear_decodable bytes (length out) clear).1 in
    let done =
    when_clear _ (numbers_of bytes) out _ _ clear (sym (number-count bytes))
    (c.put_numbers.ensures ∙ stored-in_front (numbers_of bytes) out (omega (arith, number-count bytes)))
    in
    record { value = done.0; out_after = done.1 }
