-- `line_area::withdraw_entry` meets its contract: the verdict, case by case, is the rule's, and a clear one bounds the number.
use Rattle.std.proofs.lemmas.Result.{err_from_is_err_and}
use Rattle.laws.proofs.{◌≡◌, sym, ◌∙◌, lit<, lit≤}
use Rattle.text.specs.{split}
use Rattle.text_field.proofs.Laws.{count-found, field_found}
use Rattle.refusals.specs.{weigh_all, smallest}
use Rattle.refusals.proofs.Laws.{ruled_out}
use Rattle.line_entry.specs.{withdraw_rule}
use Rattle.line_entry.proofs.Laws.{turned, taken, number-found, value_found}
use Rattle.line_area.proofs.withdraw_entry.Goals as goal
use Rattle.line_area.proofs.withdraw_entry.Goals.{After-weigh_area-v}

verdict : (w : After-weigh_area-v) → w.weigh_area-v.result ≡ smallest (withdraw_rule (split w.args.line.now)).cases
unfolding withdraw_rule smallest weigh_all
verdict w =
    let scanned = w.scan-places.ensures in
    simp (
      w.weigh_area-v.ensures,
      w.weigh_form-v.ensures,
      w.weigh_letter-v.ensures,
      count-found _ _ scanned,
      field_found _ _ scanned 0 (lit< tt),
      number-found _ _ 1 _ scanned (lit< tt) w.number_at-area.ensures,
    )

pub returns-in_err-v : goal.returns-in_err-v
unfolding withdraw_rule
returns-in_err-v c = let p = err_from_is_err_and c.from_residual.result c.from_residual.ensures.1 in rw (p.1, p.2) (turned _ _ _ _ (verdict (goal.at.returns-in_err-v c).After-weigh_area-v) c.in_err-v.was)

pub returns : goal.returns
unfolding withdraw_rule
returns c =
    let judged = verdict (goal.at.returns c).After-weigh_area-v in
    let none = ruled_out _ (sym judged ∙ c.in_ok-v.was) in
    let area = value_found 1 999 65535 _ _ _ c.value_u16.ensures (number-found _ _ 1 _ c.scan-places.ensures (lit< tt) c.number_at-area.ensures) (lit≤ tt) (none 2) in
    taken _ _ _ _ judged c.in_ok-v.was (simp area)
