-- `sheet_judge::judge` meets its contract: the two cases in turn are the table's.
use Rattle.std.specs.Prelude.{Ok, Err}
use Rattle.laws.proofs.{◌≡◌, ap, ◌∙◌, rules, Bool, not}
use Rattle.refusals.specs.{Refusal, weighed}
use Rattle.refusals.proofs.Weighing.{refuses, passes, ends}
use Rattle.sheet_judge.specs.{sheet_verdict}
use Rattle.sheet_judge.proofs.judge.Goals as goal

pub returns-in_err-refuse_if : goal.returns-in_err-refuse_if
unfolding sheet_verdict
returns-in_err-refuse_if c =
    let form = c.refuse_if.ensures ∙ ap (λ (b : Bool). weighed (Ok tt) (not b) Refusal.SheetForm) c.is_sound-sound.ensures in
    let e : c.from_residual.result ≡ Err c.in_err-refuse_if.field-0.0 = search rules in
    e ∙ refuses _ _ _ form _ _ c.in_err-refuse_if.was

pub returns : goal.returns
unfolding sheet_verdict
returns c =
    let form = c.refuse_if.ensures ∙ ap (λ (b : Bool). weighed (Ok tt) (not b) Refusal.SheetForm) c.is_sound-sound.ensures in
    let row = c.refuse_if-2.ensures ∙ ap (λ (b : Bool). weighed (Ok tt) (not b) Refusal.SheetRow) c.is_regular-regular.ensures in
    passes _ _ _ form _ _ c.in_ok-refuse_if.was (ends _ _ _ row)
