-- `line::parse` meets its contract: what is too long or broken is refused before its letter is looked at.
use Rattle.laws.proofs.{sym, ◌∙◌}
use Rattle.line.proofs.Laws.{too_long, broken, whole}
use Rattle.line.proofs.parse.Goals as goal

pub returns-then-inner-gt-LONGEST : goal.returns-then-inner-gt-LONGEST
returns-then-inner-gt-LONGEST c = too_long _ _ c.body-inner.ensures c.if-inner-gt-LONGEST.true

pub returns-then-holds : goal.returns-then-holds
returns-then-holds c = broken _ _ c.body-inner.ensures c.if-inner-gt-LONGEST.false (sym c.holds.ensures ∙ c.if-holds.true)

pub returns : goal.returns
returns c = whole _ _ c.body-inner.ensures _ c.if-inner-gt-LONGEST.false
    (sym c.holds.ensures ∙ c.if-holds.false) c.by_letter.ensures
