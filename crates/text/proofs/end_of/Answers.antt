-- `text::end_of` meets its contract: past the end there is no byte, and from the start on the library finds the first.
use Rattle.std.proofs.Common.{rules}
use Rattle.std.proofs.lemmas.Iterator.{YieldsList-from_slice}
use Rattle.std.proofs.lemmas.Iterator.Search.{position_from_yields_List}
use Rattle.std.proofs.lemmas.Slice.{between_to_end}
use borrow.Author.Tests.{tests}
use Rattle.laws.proofs.{ℕ, ⊎_elim, ◌+◌, ◌≡◌, ap, ◌∙◌, arith, eqb, length, drop}
use Rattle.text.specs.{width_to}
use Rattle.text.proofs.Widths.{end_last, width_found}
use Rattle.text.proofs.end_of.Goals as goal

pub returns-in_default : goal.returns-in_default
returns-in_default c = let a = c.args in omega (arith, end_last a.byte a.bytes.now a.start (⊎_elim (λ l. omega arith) (λ l. omega arith) c.in_default.ensures.lookup.0))

pub returns : goal.returns
returns c =
    let a = c.args in
    let rest = c.in-Some.rest.now in
    let found = position_from_yields_List (λ b. eqb b a.byte) _ _ _ c.position.ensures.ran (YieldsList-from_slice rest cc) (λ x b q k. search (rules, tests)) in
    let whole : rest ≡ drop a.start a.bytes.now = c.in-Some.ensures.lookup.0.2 ∙ between_to_end a.bytes.now a.start (length a.bytes.now) (omega arith) in
    ap (λ (k : ℕ). a.start + k) (c.unwrap_or.ensures ∙ width_found a.byte rest _ found ∙ ap (width_to a.byte) whole)
