-- What a report says of the area that it names: the units received and due, and the balance.
use Rattle.laws.proofs.{ℕ, ◌≡◌, refl, ap, ◌∙◌, false, cond, eqb, eq-eqb}
use Rattle.step_outcome.specs.{Report}

unfoldable pub received_in : Report → ℕ
received_in Report.Nothing = 0
received_in (Report.Return filed) = filed.received
received_in (Report.Withdrawal area due) = 0

unfoldable pub due_in : Report → ℕ
due_in Report.Nothing = 0
due_in (Report.Return filed) = filed.due
due_in (Report.Withdrawal area due) = due

-- the balance after it, by the one before
unfoldable pub balance_in : Report → ℕ → ℕ
balance_in Report.Nothing before = before
balance_in (Report.Return filed) before = filed.balance
balance_in (Report.Withdrawal area due) before = 0

-- the area that it names, if it names one
unfoldable pub Names : Report → ℕ → Type 0
Names Report.Nothing number = Unit
Names (Report.Return filed) number = filed.area ≡ number
Names (Report.Withdrawal area due) number = area ≡ number

-- the balance of the area n after it
unfoldable pub balance_of_in : ℕ → Report → ℕ → ℕ
balance_of_in n Report.Nothing before = before
balance_of_in n (Report.Return filed) before = cond (eqb filed.area n) filed.balance before
balance_of_in n (Report.Withdrawal area due) before = cond (eqb area n) 0 before

module _ (n before : ℕ) where
  -- that of the area named, and of another
  pub balance-named : (report : Report) → Names report n → balance_of_in n report before ≡ balance_in report before
  unfolding Names balance_of_in balance_in
  balance-named Report.Nothing named = refl
  balance-named (Report.Return filed) named = rw (eq-eqb filed.area n named)
  balance-named (Report.Withdrawal area due) named = rw (eq-eqb area n named)

  pub balance_other : (report : Report) (m : ℕ) → Names report m → eqb m n ≡ false → balance_of_in n report before ≡ before
  unfolding Names balance_of_in
  balance_other Report.Nothing m named other = refl
  balance_other (Report.Return filed) m named other = rw (ap (λ (k : ℕ). eqb k n) named ∙ other)
  balance_other (Report.Withdrawal area due) m named other = rw (ap (λ (k : ℕ). eqb k n) named ∙ other)
