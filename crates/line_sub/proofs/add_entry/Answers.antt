-- `line_sub::add_entry` meets its contract: the verdict, case by case, is the rule's, and a clear one bounds the numbers.
use Rattle.std.proofs.lemmas.Result.{err_from_is_err_and}
use Rattle.laws.proofs.{◌≡◌, sym, ap, ◌∙◌, lit<, lit≤}
use Rattle.units.specs.{tenths_of}
use Rattle.forest.specs.{named}
use Rattle.text_decimal.specs.{hectares_in}
use Rattle.text.specs.{split}
use Rattle.text_field.proofs.Laws.{count-found, field_found}
use Rattle.refusals.specs.{weigh_all, smallest}
use Rattle.refusals.proofs.Laws.{ruled_out}
use Rattle.line_entry.specs.{type_at, add_rule}
use Rattle.line_entry.proofs.Laws.{turned, taken, found, number-found, value_found, planted-found}
use Rattle.line_sub.proofs.add_entry.Goals as goal
use Rattle.line_sub.proofs.add_entry.Goals.{After-weigh-v-3}

verdict : (w : After-weigh-v-3) → w.weigh-v-3.result ≡ smallest (add_rule (split w.args.line.now)).cases
unfolding add_rule smallest weigh_all
verdict w =
    let scanned = w.scan-places.ensures in
    simp (
      w.weigh-v-3.ensures,
      w.is_misdated.ensures,
      w.weigh-v-2.ensures,
      w.is_outside-too_small_or_large.ensures,
      w.weigh-v.ensures,
      w.is_unlisted.ensures,
      w.weigh_sub-v.ensures,
      w.weigh_area-v.ensures,
      w.weigh_form-v-4.ensures,
      w.weigh_form-v-3.ensures,
      w.weigh_form-v-2.ensures,
      w.weigh_form-v.ensures,
      w.weigh_letter-v.ensures,
      count-found _ _ scanned,
      field_found _ _ scanned 0 (lit< tt),
      number-found _ _ 1 _ scanned (lit< tt) w.number_at-area.ensures,
      number-found _ _ 2 _ scanned (lit< tt) w.number_at-sub.ensures,
      found hectares_in _ _ 3 _ scanned (lit< tt) (w.hectares-hectares.ensures ∙ ap hectares_in w.field.ensures),
      found named _ _ 4 _ scanned (lit< tt) (w.read-named.ensures ∙ ap named w.field-2.ensures),
      number-found _ _ 5 _ scanned (lit< tt) w.number_at-planted.ensures,
    )

pub returns-in_err-v : goal.returns-in_err-v
unfolding add_rule
returns-in_err-v c = let p = err_from_is_err_and c.from_residual.result c.from_residual.ensures.1 in rw (p.1, p.2) (turned _ _ _ _ (verdict (goal.at.returns-in_err-v c).After-weigh-v-3) c.in_err-v.was)

pub returns : goal.returns
unfolding add_rule
returns c =
    let scanned = c.scan-places.ensures in
    let clear = c.in_ok-v.was in
    let none = ruled_out _ (sym (verdict (goal.at.returns c).After-weigh-v-3) ∙ clear) in
    let area = value_found 1 999 65535 _ _ _ c.value_u16.ensures (number-found _ _ 1 _ scanned (lit< tt) c.number_at-area.ensures) (lit≤ tt) (none 5) in
    let sub = value_found 1 99 65535 _ _ _ c.value_u16-2.ensures (number-found _ _ 2 _ scanned (lit< tt) c.number_at-sub.ensures) (lit≤ tt) (none 6) in
    let hectares =
    value_found 10000 100000000 4294967295 _ _ _ c.value_u32.ensures
    (found hectares_in _ _ 3 _ scanned (lit< tt) (c.hectares-hectares.ensures ∙ ap hectares_in c.field.ensures)) (lit≤ tt) (none 8) in
    let type = found named _ _ 4 _ scanned (lit< tt) (c.read-named.ensures ∙ ap named c.field-2.ensures) in
    let planted = planted-found (type_at (split c.args.line.now) 4) _ _ _ c.value_u16-3.ensures (number-found _ _ 5 _ scanned (lit< tt) c.number_at-planted.ensures) (none 9) in
    taken _ _ _ _ (verdict (goal.at.returns c).After-weigh-v-3) clear (simp (area, sub, c.rounded.ensures ∙ ap tenths_of hectares, c.forest_of.ensures, type, planted))
