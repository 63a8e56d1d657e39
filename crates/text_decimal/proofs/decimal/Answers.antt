-- `text_decimal::decimal` meets its contract, by what follows the whole number.
use Rattle.laws.proofs.{◌∙◌, arith, length-take}
use Rattle.text.proofs.Widths.{width_le}
use Rattle.text_decimal.specs.{point}
use Rattle.text_decimal.proofs.Laws.{none_behind, bare_point, too_many, with_decimals_lem}
use Rattle.text_decimal.proofs.decimal.Goals as goal

pub slice_bounds-read-end : goal.slice_bounds-read-end
slice_bounds-read-end c = omega (arith, length-take c.end_of-end.result c.args.bytes.now, width_le point c.args.bytes.now, c.end_of-end.ensures)

pub returns-then-bytes-end : goal.returns-then-bytes-end
returns-then-bytes-end c = let r = c in
    c.zeros.ensures ∙ none_behind _ _ _ _ r.end_of-end.ensures r.read-whole.ensures c.if-bytes-end.true

pub returns-then-count-eq0 : goal.returns-then-count-eq0
returns-then-count-eq0 c = let r = c in
    bare_point _ _ _ _ r.end_of-end.ensures r.read-whole.ensures c.if-bytes-end.false c.if-count-eq0.true

pub returns-then-places-count : goal.returns-then-places-count
returns-then-places-count c = let r = c in
    too_many _ _ _ _ r.end_of-end.ensures r.read-whole.ensures c.if-bytes-end.false c.if-count-eq0.false c.if-places-count.true

pub returns : goal.returns
returns c = let r = c in
    rw (c.zeros-2.ensures, c.more-digits.ensures)
    (with_decimals_lem _ _ _ _ r.end_of-end.ensures r.read-whole.ensures c.if-bytes-end.false c.if-count-eq0.false c.if-places-count.false)
