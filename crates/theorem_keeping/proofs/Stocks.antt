-- The bounds of stocks and changes. A rate is at most 30,000 and a share at most 10, so a sub-area of at most 100,000 tenths has trees of at most
-- 3×10^10 kg and residue of at most that; between two stocks of an area lie at most those of all its sub-areas, in tonnes.
use Rattle.laws.proofs.{ℕ, ◌+◌, ◌-◌, ◌*◌, ◌/◌, ◌≤◌, Bool, true, false, cond, ◌≡◌, List, arith, leb, ltb, length, length-take}
use native.Mathlib.Nat.{mul-le-mul}
use Rattle.units.specs.{Kilograms, no_kilograms, Change, trees_of, residue_of, tonnes, change_between}
use Rattle.ranges.specs.{most_land}
use Rattle.schedules.specs.{cell_ceiling, schedule6, Kind}
use Rattle.table.specs.{is_table}
use Rattle.rates.proofs.Ceiling.{six_at_most}
use Rattle.rates.proofs.Decay.{share_at_most}
use Rattle.holding.specs.{Sub, Area, most_subs, subs_of}
use Rattle.statement_carried.specs.{stock_for_sub}
use Rattle.step_file.specs.{change_of}
use Rattle.stocks.specs.{trees_on, one_residue_on, residue_on, sub_stock, area_stock}
use Rattle.stocks.proofs.Residues.{residue_alone}
use Rattle.theorem_keeping.specs.{Each}
use Rattle.theorem_keeping.proofs.Within.{land_within}
use Rattle.theorem_keeping.proofs.Lists.{sum_at_most, each_so}
use Rattle.theorem_keeping.proofs.Areas.{AreaKept}

-- a product of three numbers, each with its bound
product_at_most : (a b c l m n : ℕ) → a ≤ l → b ≤ m → c ≤ n → a * b * c ≤ l * m * n
product_at_most a b c l m n p q r = mul-le-mul (mul-le-mul p q) r

-- none is within every bound
unless : (t : Bool) (stock : Kilograms) (m : ℕ) → stock.0 ≤ m → (cond t no_kilograms stock).0 ≤ m
unless true stock m h = omega arith
unless false stock m h = h

module _ (own : List ℕ) (table : is_table own ≡ true) where
  module _ (sub : Sub) (y : ℕ) (land : sub.tenths.0 ≤ most_land) where
    pub trees_at_most : (trees_on own schedule6 sub y).0 ≤ 30000000000
    unfolding trees_on trees_of
    trees_at_most =
        let rate = six_at_most own Kind.Stock sub.forest (y - sub.planted) table in
        unless (ltb y sub.planted) _ _ (omega (arith, product_at_most _ _ 10 most_land cell_ceiling 10 land rate (omega arith)))

    pub residue_at_most : (residue_on own schedule6 sub y).0 ≤ 30000000000
    unfolding one_residue_on residue_of
    residue_at_most =
        let rate = six_at_most own Kind.Residue sub.residue.forest sub.residue.age table in
        rw residue_alone
        (unless (leb y sub.residue.year) _ _
        (omega (arith, product_at_most _ _ _ most_land cell_ceiling 10 land rate (share_at_most (y - sub.residue.year)))))

    pub sub_at_most : (sub_stock own schedule6 sub y).0 ≤ stock_for_sub
    unfolding sub_stock
    sub_at_most = omega (arith, trees_at_most, residue_at_most)

  pub area_at_most : (area : Area) (y : ℕ) → Each (λ sub. sub.tenths.0 ≤ most_land) (subs_of area)
      → (area_stock own schedule6 area y).0 ≤ stock_for_sub * length (subs_of area)
  unfolding area_stock
  area_at_most area y p =
      sum_at_most (λ sub. (sub_stock own schedule6 sub y).0) stock_for_sub (subs_of area) (each_so _ _ (λ sub. sub_at_most sub y) (subs_of area) p)

-- the size of a change, in tonnes
abbrev pub size_of : Change → ℕ
size_of (Change.Gain tonnes) = tonnes
size_of (Change.Loss tonnes) = tonnes

-- what the stock of an area that is full comes to, in tonnes: less than a return may receive
abbrev pub most_change : ℕ
most_change = stock_for_sub * most_subs / 1000

pub change_at_most : (opening closing : Kilograms) → opening.0 ≤ stock_for_sub * most_subs → closing.0 ≤ stock_for_sub * most_subs
    → size_of (change_between opening closing) ≤ most_change
unfolding change_between tonnes
change_at_most opening closing p q = go (leb opening.0 closing.0)
  where
    go : (t : Bool) → size_of (cond t (Change.Gain (tonnes (closing.0 - opening.0))) (Change.Loss (tonnes (opening.0 - closing.0)))) ≤ most_change
    go true = omega arith
    go false = omega arith

-- of an area that is kept
module _ (own : List ℕ) (table : is_table own ≡ true) (area : Area) (k : AreaKept area) where
  pub stock_at_most : (y : ℕ) → (area_stock own schedule6 area y).0 ≤ stock_for_sub * area.count
  stock_at_most y =
      let lands = each_so _ _ (λ sub s. (land_within sub.tenths s.land).1) (subs_of area) k.subs.each in
      omega (arith, area_at_most own table area y lands, length-take area.count area.subs)

  pub return_at_most : (last : ℕ) → size_of (change_of own schedule6 area last) ≤ most_change
  unfolding change_of
  return_at_most last =
      let room : area.count ≤ most_subs = k.subs.room in
      change_at_most area.stock (area_stock own schedule6 area (last + 1))
      (omega (arith, k.fields.amounts.bounded)) (omega (arith, stock_at_most (last + 1)))
