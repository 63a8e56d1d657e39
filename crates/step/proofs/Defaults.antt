-- An act that looks no rate up is the same under any default table.
use Rattle.laws.proofs.{ℕ, ◌≡◌, refl, false, List, arith}
use Rattle.line_entry.specs.{Act}
use Rattle.holding_look.specs.{Looked}
use Rattle.step.specs.{looks_up, acted}

pub by_any : (own default other : List ℕ) (looked : Looked) (act : Act) → looks_up act ≡ false → acted own default looked act ≡ acted own other looked act
by_any own default other looked (Act.Open opening) e = refl
by_any own default other looked (Act.Add sub land forest year) e = absurd (let z : ◌≡◌ {A = ℕ} 0 1 = cc in omega arith)
by_any own default other looked (Act.Clear sub year) e = refl
by_any own default other looked (Act.Plant sub forest year) e = refl
by_any own default other looked (Act.File last) e = absurd (let z : ◌≡◌ {A = ℕ} 0 1 = cc in omega arith)
by_any own default other looked Act.Withdraw e = refl
