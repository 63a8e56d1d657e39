-- A list of numbers is refused, under 6, just where it is no table.
use Rattle.std.specs.Prelude.{Ok}
use Rattle.laws.proofs.{ℕ, Bool, not, ◌≡◌, ap, List}
use Rattle.refusals.specs.{Refusal, weighed, weigh_all, smallest}
use Rattle.table.specs.{is_table, judged}

pub judged_by : (own : List ℕ) (t : Bool) → is_table own ≡ t → judged own ≡ weighed (Ok tt) (not t) Refusal.TableColumn
unfolding judged smallest weigh_all
judged_by own t e = ap (λ (b : Bool). weighed (Ok tt) (not b) Refusal.TableColumn) e
