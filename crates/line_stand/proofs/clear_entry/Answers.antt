-- `line_stand::clear_entry` meets its contract: the verdict, case by case, is the rule's, and a clear one bounds the numbers.
use Rattle.std.proofs.lemmas.Result.{err_from_is_err_and}
use Rattle.laws.proofs.{◌≡◌, sym, ◌∙◌, lit<, lit≤}
use Rattle.text.specs.{split}
use Rattle.text_field.proofs.Laws.{count-found, field_found}
use Rattle.refusals.specs.{weigh_all, smallest}
use Rattle.refusals.proofs.Laws.{ruled_out}
use Rattle.line_entry.specs.{clear_rule}
use Rattle.line_entry.proofs.Laws.{turned, taken, number-found, value_found}
use Rattle.line_stand.proofs.clear_entry.Goals as goal
use Rattle.line_stand.proofs.clear_entry.Goals.{After-weigh_year-v}

verdict : (w : After-weigh_year-v) → w.weigh_year-v.result ≡ smallest (clear_rule (split w.args.line.now)).cases
unfolding clear_rule smallest weigh_all
verdict w =
    let scanned = w.scan-places.ensures in
    simp (
      w.weigh_year-v.ensures,
      w.weigh_sub-v.ensures,
      w.weigh_area-v.ensures,
      w.weigh_form-v-3.ensures,
      w.weigh_form-v-2.ensures,
      w.weigh_form-v.ensures,
      w.weigh_letter-v.ensures,
      count-found _ _ scanned,
      field_found _ _ scanned 0 (lit< tt),
      number-found _ _ 1 _ scanned (lit< tt) w.number_at-area.ensures,
      number-found _ _ 2 _ scanned (lit< tt) w.number_at-sub.ensures,
      number-found _ _ 3 _ scanned (lit< tt) w.number_at-year.ensures,
    )

pub returns-in_err-v : goal.returns-in_err-v
unfolding clear_rule
returns-in_err-v c = let p = err_from_is_err_and c.from_residual.result c.from_residual.ensures.1 in rw (p.1, p.2) (turned _ _ _ _ (verdict (goal.at.returns-in_err-v c).After-weigh_year-v) c.in_err-v.was)

pub returns : goal.returns
unfolding clear_rule
returns c =
    let scanned = c.scan-places.ensures in
    let clear = c.in_ok-v.was in
    let none = ruled_out _ (sym (verdict (goal.at.returns c).After-weigh_year-v) ∙ clear) in
    let area = value_found 1 999 65535 _ _ _ c.value_u16.ensures (number-found _ _ 1 _ scanned (lit< tt) c.number_at-area.ensures) (lit≤ tt) (none 4) in
    let sub = value_found 1 99 65535 _ _ _ c.value_u16-2.ensures (number-found _ _ 2 _ scanned (lit< tt) c.number_at-sub.ensures) (lit≤ tt) (none 5) in
    let year = value_found 2008 2199 65535 _ _ _ c.value_u16-3.ensures (number-found _ _ 3 _ scanned (lit< tt) c.number_at-year.ensures) (lit≤ tt) (none 6) in
    taken _ _ _ _ (verdict (goal.at.returns c).After-weigh_year-v) clear (simp (area, sub, year))
