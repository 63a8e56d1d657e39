-- The balances of the areas that stand, by number and by area: each number is one of 1 to 999, so the sum over the numbers, of the sums over the areas that
-- bear each, is the sum over the areas. And no area surrendered more than it received, so what was received is what was surrendered and the balances.
use Rattle.laws.proofs.{ℕ, zero, suc, ◌+◌, ◌≤◌, ◌<◌, cond, ◌≡◌, refl, ◌∙◌, List, [], ◌∷◌, ⊎_elim, arith, eqb, eq-eqb, ne_eqb}
use Rattle.laws.specs.{sum_by}
use Rattle.laws.proofs.Order.{below_or_not}
use Rattle.ranges.specs.{last_area}
use Rattle.holding.specs.{Area, Holding, areas_of}
use Rattle.holding_look.specs.{balance_of, units_received, units_surrendered}
use Rattle.book_foot.proofs.Carried.{over_all}
use Rattle.theorem_keeping.specs.{Each, Kept}
use Rattle.theorem_keeping.proofs.Within.{within}
use Rattle.theorem_keeping.proofs.Lists.{each_so}
use Rattle.theorem_keeping.proofs.Areas.{area_number, AreaKept, kept-areas}
use Rattle.theorem_foot.specs.{sum_to}
use Rattle.theorem_foot.proofs.Sums.{borne}
use Rattle.theorem_foot.proofs.Totals.{balance_for}

-- ---- sums over numbers

to_none : (last : ℕ) → sum_to last (λ n. 0) ≡ 0
unfolding sum_to
to_none zero = refl
to_none (suc last) = omega (arith, to_none last)

to_both : (last : ℕ) (f g : ℕ → ℕ) → sum_to last (λ n. f n + g n) ≡ sum_to last f + sum_to last g
unfolding sum_to
to_both zero f g = omega arith
to_both (suc last) f g = omega (arith, to_both last f g)

-- what stands at one number, past the last and within
module _ (m x : ℕ) where
  abbrev only : ℕ → ℕ
  only n = cond (eqb m n) x 0

  only_there : (n : ℕ) → m ≡ n → only n ≡ x
  only_there n e = rw (eq-eqb m n e)

  only_elsewhere : (n : ℕ) → (m ≡ n → ⊥) → only n ≡ 0
  only_elsewhere n e = rw (ne_eqb m n e)

  to_past : (last : ℕ) → last < m → sum_to last only ≡ 0
  unfolding sum_to
  to_past zero h = refl
  to_past (suc last) h = omega (arith, to_past last (omega arith), only_elsewhere (suc last) (λ e. omega arith))

  to_one : (last : ℕ) → 1 ≤ m → m ≤ last → sum_to last only ≡ x
  unfolding sum_to
  to_one zero l h = absurd (omega arith)
  to_one (suc last) l h =
      ⊎_elim
      (λ before. omega (arith, to_one last l (omega arith), only_elsewhere (suc last) (λ e. omega arith)))
      (λ here. omega (arith, to_past last (omega arith), only_there (suc last) (omega arith)))
      (below_or_not m (suc last))

-- the sums change places
module _ {A : Type 0} (number_of measure : A → ℕ) (last : ℕ) where
  to_borne : (l : List A) → Each (λ a. (1 ≤ number_of a) × (number_of a ≤ last)) l → sum_to last (λ n. sum_by (borne number_of measure n) l) ≡ sum_by measure l
  unfolding sum_by Each
  to_borne [] ranged = to_none last
  to_borne (a ∷ l) ranged =
      to_both last (λ n. borne number_of measure n a) (λ n. sum_by (borne number_of measure n) l)
      ∙ (omega (arith, to_one (number_of a) (measure a) last ranged.0.0 ranged.0.1, to_borne l ranged.1))

-- ---- the areas that stand

areas-paid : (areas : List Area) → Each AreaKept areas → sum_by units_received areas ≡ sum_by units_surrendered areas + sum_by balance_of areas
unfolding sum_by Each
areas-paid [] each = omega arith
areas-paid (area ∷ areas) each = omega (arith, each.0.fields.amounts.owned, areas-paid areas each.1)

module _ (holding : Holding) (kept : Kept holding) where
  pub balances_summed : sum_to last_area (λ n. balance_for n holding) ≡ over_all balance_of holding
  balances_summed =
      to_borne area_number balance_of last_area (areas_of holding)
      (each_so _ _ (λ area a. within 1 area.number last_area a.fields.number) (areas_of holding) (kept-areas holding kept).each)

  pub units-paid : over_all units_received holding ≡ over_all units_surrendered holding + over_all balance_of holding
  units-paid = areas-paid (areas_of holding) (kept-areas holding kept).each
