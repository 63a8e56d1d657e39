-- The test of an area's own fields, read as facts about its numbers, and made from them.
use Rattle.laws.proofs.{ℕ, ◌+◌, ◌*◌, ◌≤◌, Bool, true, ◌||◌, ◌≡◌, arith, eqb, leb-true, le-leb}
use Rattle.laws.proofs.Tests.{AllTrue, all_true, true_all}
use Rattle.ranges.specs.{last_year, is_area, is_year}
use Rattle.holding.specs.{Area, most_subs}
use Rattle.statement_carried.specs.{stock_for_sub, received_for_return, years_carried, amounts_carried, amounts_within, fields_carried, fields_within}
use Rattle.theorem_keeping.proofs.Tests.{if_read, if_so, just_when_read, just_when}

-- an area's years, from its opening to the open year, and how many returns were filed
pub record YearsKept (opening open_year latest returns : ℕ) : Type 0 where
  pub opens : is_year opening ≡ true
  pub changed : (eqb latest 0 || is_year latest) ≡ true
  pub ends : open_year ≤ last_year + 1
  pub starts : opening ≤ open_year
  pub unfiled : returns ≡ 0 → open_year ≡ opening
  pub yearly : returns + opening ≤ open_year

-- its stock and units, by how many sub-areas it has and how many returns were filed
pub record AmountsKept (count returns stock received surrendered : ℕ) (withdrawn : Bool) : Type 0 where
  pub bounded : stock ≤ stock_for_sub * count
  pub earned : received ≤ received_for_return * returns
  pub owned : surrendered ≤ received
  pub settled : withdrawn ≡ true → surrendered ≡ received

pub record FieldsKept (area : Area) : Type 0 where
  pub number : is_area area.number ≡ true
  pub years : YearsKept area.opening area.open_year area.latest area.returns
  pub amounts : AmountsKept area.count area.returns area.stock.0 area.received area.surrendered area.withdrawn

module _ (area : Area) where
  years_read : years_carried area ≡ true → YearsKept area.opening area.open_year area.latest area.returns
  unfolding years_carried AllTrue
  years_read e =
      let t = all_true _ e in
      record {
        opens = t.0;
        changed = t.1.0;
        ends = leb-true _ _ t.1.1.0;
        starts = leb-true _ _ t.1.1.1.0;
        unfiled = just_when_read _ _ _ _ t.1.1.1.1.0;
        yearly = leb-true _ _ t.1.1.1.1.1.0;
      }

  years_carried_lem : YearsKept area.opening area.open_year area.latest area.returns → years_carried area ≡ true
  unfolding years_carried AllTrue
  years_carried_lem k =
      let unfiled = just_when area.open_year area.opening area.returns 0 (λ e. omega (arith, k.yearly)) k.unfiled in
      true_all _
      (k.opens, (k.changed, (le-leb _ _ k.ends, (le-leb _ _ k.starts, (unfiled, (le-leb _ _ k.yearly, tt))))))

  amounts_read : amounts_carried area ≡ true → AmountsKept area.count area.returns area.stock.0 area.received area.surrendered area.withdrawn
  unfolding amounts_within AllTrue
  amounts_read e =
      let t = all_true _ e in
      record {
        bounded = leb-true _ _ t.0;
        earned = leb-true _ _ t.1.0;
        owned = leb-true _ _ t.1.1.0;
        settled = if_read _ _ _ t.1.1.1.0;
      }

  amounts_carried_lem : AmountsKept area.count area.returns area.stock.0 area.received area.surrendered area.withdrawn
      → amounts_carried area ≡ true
  unfolding amounts_within AllTrue
  amounts_carried_lem k =
      true_all _
      (le-leb _ _ k.bounded, (le-leb _ _ k.earned, (le-leb _ _ k.owned, (if_so _ _ _ k.settled, tt))))

  pub fields_read : fields_carried area ≡ true → (area.count ≤ most_subs) × FieldsKept area
  unfolding fields_within AllTrue
  fields_read e =
      let t = all_true _ e in
      (leb-true _ _ t.0, record { number = t.1.0; years = years_read t.1.1.0; amounts = amounts_read t.1.1.1.0 })

  pub fields_carried_lem : area.count ≤ most_subs → FieldsKept area → fields_carried area ≡ true
  unfolding fields_within AllTrue
  fields_carried_lem room k = true_all _ (le-leb _ _ room, (k.number, (years_carried_lem k.years, (amounts_carried_lem k.amounts, tt))))
