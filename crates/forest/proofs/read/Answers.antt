-- `forest::read` meets its contract, by how many bytes there are.
use Rattle.laws.proofs.{◌∙◌, arith}
use Rattle.forest.proofs.Laws.{one_byte, two_bytes, no_radiata, no_letters}
use Rattle.forest.proofs.read.Goals as goal

pub returns-in-len1 : goal.returns-in-len1
returns-in-len1 c = c.letter_names.ensures ∙ one_byte _ (omega arith)

pub returns-in-80 : goal.returns-in-80
returns-in-80 c = c.region_names.ensures ∙ two_bytes _ (omega arith) (omega arith)

pub returns-in_default : goal.returns-in_default
returns-in_default c = no_letters _ (λ h. omega arith) (λ h. omega arith)

pub returns-in_default-2 : goal.returns-in_default-2
returns-in_default-2 c = no_radiata _ (omega arith) (λ h. omega arith)

pub returns-in_default-3 : goal.returns-in_default-3
returns-in_default-3 c = no_letters _ (λ h. omega arith) (λ h. omega arith)
