-- `statement_judge::areas` meets its contract: the library's test of all is the definition's.
use Rattle.std.proofs.lemmas.Iterator.{YieldsList-from_slice}
use Rattle.std.proofs.lemmas.Iterator.Search.{all_from_yields_List}
use Rattle.laws.proofs.{ap, ◌∙◌, rules}
use borrow.Author.Tests.{tests}
use Rattle.laws.specs.{every}
use Rattle.holding.proofs.Items.{all_is_every}
use Rattle.statement_carried.specs.{area_carried}
use Rattle.statement_judge.proofs.areas.Goals as goal

pub returns : goal.returns
returns c =
    all_from_yields_List area_carried _ _ _ c.all.ensures.ran (YieldsList-from_slice _ cc) (λ x b q k. search (rules, tests))
    ∙ all_is_every area_carried _
    ∙ ap (every area_carried) c.standing.ensures
