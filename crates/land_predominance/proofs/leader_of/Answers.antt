-- `land_predominance::leader_of` meets its contract: setting the groups left against the leader gives the predominant one.
use Rattle.land_predominance.proofs.Leading.{first_leads, none_leads}
use Rattle.land_predominance.proofs.leader_of.Goals as goal

pub returns-in_default : goal.returns-in_default
returns-in_default c = none_leads _ c.in_default.ensures.cases

pub loop-g-init : goal.loop-g-init
loop-g-init c = first_leads _ _ _ c.in-Some.ensures.cases.0
