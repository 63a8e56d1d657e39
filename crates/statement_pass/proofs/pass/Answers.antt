-- `statement_pass::pass` meets its contract: the first line is read, the areas are passed over, and the statement is taken or not.
use Rattle.laws.proofs.{ℕ, ◌≡◌, refl, ap, ◌∙◌, List}
use Rattle.holding.specs.{most_areas}
use Rattle.statement_cursor.specs.{NumberField, number_at, start_at}
use Rattle.statement_places.specs.{head_at}
use Rattle.statement_pass.proofs.Passing.{pass_clear, pass_turned}
use Rattle.statement_pass.proofs.pass.Goals as goal

-- the first line
head_is : (s : List ℕ) (start : ℕ) (head : NumberField) → head ≡ number_at s start 10 most_areas → start ≡ start_at s 0 72 → head ≡ head_at s
unfolding head_at
head_is s start head e f = e ∙ ap (λ p. number_at s p 10 most_areas) f

pub returns-then-next-s : goal.returns-then-next-s
returns-then-next-s c =
    let s = c.args.s.now in
    let head = c.number-head in
    pass_clear s c.args.number head.result (head_is s _ head.result head.ensures.value c.start-start.ensures) c.pass_areas-areas.result c.numbers-apart.result _ refl
    c.pass_areas-areas.ensures c.numbers-apart.ensures c.if-next-s.true

pub returns : goal.returns
returns c =
    let s = c.args.s.now in
    let head = c.number-head in
    pass_turned s c.args.number head.result (head_is s _ head.result head.ensures.value c.start-start.ensures) c.pass_areas-areas.result c.numbers-apart.result _ refl
    c.pass_areas-areas.ensures c.numbers-apart.ensures c.if-next-s.false _ c.empty_area-none.ensures
