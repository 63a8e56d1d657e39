-- `book_foot::all_carried` meets its contract: the library's test of all is the definition's.
use Rattle.std.proofs.lemmas.Iterator.{YieldsList-from_slice}
use Rattle.std.proofs.lemmas.Iterator.Search.{all_from_yields_List}
use borrow.Author.Tests.{tests}
use Rattle.laws.proofs.{◌≡◌, ap, ◌∙◌, rules}
use Rattle.laws.specs.{every, all_of}
use Rattle.holding.specs.{areas_of}
use Rattle.holding.proofs.Items.{all_is_every}
use Rattle.statement_carried.specs.{fields_carried}
use Rattle.book_foot.specs.{all_carried}
use Rattle.book_foot.proofs.all_carried.Goals as goal

pub returns : goal.returns
unfolding all_carried all_of
returns c =
    let carried : c.all-carried.result ≡ every fields_carried (areas_of c.args.holding) =
    all_from_yields_List fields_carried _ _ c.all-carried.result c.all-carried.ensures.ran (YieldsList-from_slice _ cc) (λ x b q k. search (rules, tests))
    ∙ all_is_every fields_carried _
    ∙ ap (every fields_carried) c.standing.ensures in
    simp carried
