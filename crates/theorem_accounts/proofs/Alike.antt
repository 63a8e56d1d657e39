-- What an area is to its row in the ledger and to what was reported for it, and that each step of the area keeps this.
use Rattle.std.specs.Prelude.{Some, None, Option}
use Rattle.laws.proofs.{ℕ, suc, ◌+◌, ◌-◌, ◌<◌, Bool, true, false, ◌≡◌, refl, sym, ap, ◌∙◌, List, [], ◌∷◌, ◌++◌, arith, add-one, length, take, get_or, set, length-append, length-set}
use lib.IntN.{ℤ, pos, ◌+ℤ◌, ◌-ℤ◌}
use lib.Seq.{take-suc-set}
use Rattle.laws.specs.{sum_by}
use Rattle.units.specs.{Change, value, nearest_tonne}
use Rattle.units.proofs.Rounding.{change-value}
use Rattle.schedules.specs.{schedule6}
use Rattle.stocks.specs.{sub_stock, area_stock}
use Rattle.holding.specs.{Sub, Area, most_subs, subs_of, opened_area, empty_sub, find_sub}
use Rattle.holding_look.specs.{known, sub_at, balance_of, with_sub}
use Rattle.step_add.specs.{added_area}
use Rattle.step_file.specs.{received_of, due_of, filed_area}
use Rattle.step_file.specs.Filing as Filing
use Rattle.step_withdraw.specs.{withdrawn_area}
use Rattle.theorem_ledger.specs.{change, Row, sub_number, opened, added, with_subs, returned, withdrawn_row, stock_after, change_of, lesser}
use Rattle.theorem_accounts.specs.{Reported, nothing_reported, total, sums_from, lowest, Shown}
use Rattle.theorem_accounts.proofs.Keyed.{standing_changed}
use Rattle.theorem_accounts.proofs.Running.{total-more, lowest-more}
use Rattle.theorem_accounts.proofs.Units.{Near, near-start, near-added, near-more, Held, held_start, held_more, balance_is, balance-more, paid-more}

-- the ledger's figures against what was reported
pub record Settled (opening closing returns : ℕ) (sum low : ℤ) (withdrawn : Bool) (reported : Reported) : Type 0 where
  pub sum_is : sum ≡ total reported.changes
  pub lowest_is : low ≡ lowest reported.changes
  pub count_is : returns ≡ length reported.changes
  pub near : Near sum opening closing returns
  pub paid : reported.received ≡ reported.surrendered + reported.balance
  pub live : withdrawn ≡ false → Held reported.balance sum low
  pub over : withdrawn ≡ true → reported.balance ≡ 0

abbrev pub SettledBy : Row → Reported → Type 0
SettledBy row reported = Settled row.opening row.closing row.returns row.sum row.lowest row.withdrawn reported

pub record Alike (area : Area) (reported : Reported) (row : Row) : Type 0 where
  pub shown : Shown area reported row
  pub places : length area.subs ≡ most_subs
  pub settled : SettledBy row reported

-- what was reported, with a return or a withdrawal more
abbrev pub with_return : Reported → Change → ℕ → ℕ → Reported
with_return before c balance after = record {
  changes = before.changes ++ (value c ∷ []);
  received = before.received + received_of c;
  surrendered = before.surrendered + due_of c balance;
  balance = after;
}

abbrev pub with_withdrawal : Reported → ℕ → Reported
with_withdrawal before due = record { changes = before.changes; received = before.received; surrendered = before.surrendered + due; balance = 0 }

-- an area's units received and surrendered (r, u) are those that were reported (x, y)
module _ (r u x y b : ℕ) (c : Change) (received : r ≡ x) (surrendered : u ≡ y) (paid : x ≡ y + b) where
  paid_by : x + received_of c ≡ y + due_of c (r - u) + (r + received_of c - (u + due_of c (r - u)))
  paid_by = rw (received, surrendered, balance_is x y b paid, balance-more x y b paid c) (paid-more x y b paid c)

  held_by : (s w z : ℤ) → value c ≡ z → Held b s w → Held (r + received_of c - (u + due_of c (r - u))) (s +ℤ z) (lesser w (s +ℤ z))
  held_by s w z v h = rw (received, surrendered, balance_is x y b paid, balance-more x y b paid c, ← v) (held_more b s w c h)

-- A
pub opened_alike : (n year : ℕ) → Alike (opened_area n year) nothing_reported (opened n year)
unfolding total lowest sums_from
opened_alike n year = record {
  shown = record { number = refl; opening = refl; received = refl; surrendered = refl; returns = refl; stock = refl; withdrawn = refl; subs = refl };
  places = refl;
  settled = record {
    sum_is = refl;
    lowest_is = refl;
    count_is = refl;
    near = near-start;
    paid = refl;
    live = λ e. held_start;
    over = λ e. refl;
  };
}

module _ (own : List ℕ) (area : Area) (reported : Reported) (row : Row) (alike : Alike area reported row) where
  same : Shown area reported row
  same = alike.shown

  account : SettledBy row reported
  account = alike.settled

  -- S
  pub added_alike : (sub : Sub) → area.count < most_subs → Alike (added_area own schedule6 area sub) reported (added own sub row)
  unfolding added_area
  added_alike sub h = record {
    shown = record {
      number = same.number;
      opening = same.opening;
      received = same.received;
      surrendered = same.surrendered;
      returns = same.returns;
      stock = stock-more area.opening row.opening_year area.stock.0 row.closing same.opening same.stock;
      withdrawn = same.withdrawn;
      subs = one_more area.count area.subs alike.places h ∙ ap (λ (l : List Sub). l ++ (sub ∷ [])) same.subs;
    };
    places = length-set area.subs area.count sub ∙ alike.places;
    settled = record {
      sum_is = account.sum_is;
      lowest_is = account.lowest_is;
      count_is = account.count_is;
      near = near-added row.sum row.opening row.closing row.returns (sub_stock own schedule6 sub row.opening_year).0 account.near;
      paid = account.paid;
      live = account.live;
      over = account.over;
    };
  }
    where
      stock-more : (y z a b : ℕ) → y ≡ z → a ≡ b → a + (sub_stock own schedule6 sub y).0 ≡ b + (sub_stock own schedule6 sub z).0
      stock-more y z a b e f = rw (e, f)

      one_more : (k : ℕ) (l : List Sub) → length l ≡ most_subs → k < most_subs → take (k + 1) (set l k sub) ≡ take k l ++ (sub ∷ [])
      one_more k l e h = rw (add-one k) (take-suc-set l k sub (omega arith))

  -- C and P: the sub-area under a number is changed
  pub sub_alike : (n year : ℕ) (f : Sub → Sub) (found : Option ℕ) → find_sub area n ≡ found → known found ≡ true
      → Alike (with_sub area found (f (sub_at area found)) year) reported (with_subs (change sub_number n f) row)
  unfolding with_sub find_sub sub_at
  sub_alike n year f None e k = let z : ◌≡◌ {A = ℕ} 0 1 = cc in absurd (omega arith)
  sub_alike n year f (Some i) e k = record {
    shown = record {
      number = same.number;
      opening = same.opening;
      received = same.received;
      surrendered = same.surrendered;
      returns = same.returns;
      stock = same.stock;
      withdrawn = same.withdrawn;
      subs = standing_changed sub_number n area.subs area.count i empty_sub f e ∙ ap (change sub_number n f) same.subs;
    };
    places = length-set area.subs i (f (get_or area.subs i empty_sub)) ∙ alike.places;
    settled = account;
  }

  -- R: the change reported is the ledger's
  pub change_alike : (last : ℕ) → value (Filing.change_of own schedule6 area last) ≡ change_of own last row
  unfolding Filing.change_of area_stock
  change_alike last =
      change-value area.stock (area_stock own schedule6 area (last + 1))
      ∙ alike_change (subs_of area) row.subs area.stock.0 row.closing same.subs same.stock
    where
      stocked : List Sub → ℕ
      stocked subs = sum_by (λ (sub : Sub). (sub_stock own schedule6 sub (last + 1)).0) subs

      alike_change : (l m : List Sub) (a b : ℕ) → l ≡ m → a ≡ b → nearest_tonne (pos (stocked l) -ℤ pos a) ≡ nearest_tonne (pos (stocked m) -ℤ pos b)
      alike_change l m a b e f = rw (e, f)

  pub returned_alike : (last : ℕ) → row.withdrawn ≡ false
      → Alike (filed_area own schedule6 area last)
      (with_return reported (Filing.change_of own schedule6 area last) (balance_of area) (balance_of (filed_area own schedule6 area last)))
      (returned own last row)
  unfolding filed_area area_stock
  returned_alike last here = record {
    shown = record {
      number = same.number;
      opening = same.opening;
      received = ap (λ (k : ℕ). k + received_of c) same.received;
      surrendered = ap (λ (k : ℕ). k + due_of c (balance_of area)) same.surrendered;
      returns = add-one area.returns ∙ ap suc same.returns;
      stock = ap (sum_by (λ (sub : Sub). (sub_stock own schedule6 sub (last + 1)).0)) same.subs;
      withdrawn = same.withdrawn;
      subs = same.subs;
    };
    places = alike.places;
    settled = record {
      sum_is = sum_more row.sum reported.changes account.sum_is;
      lowest_is = low_more row.sum row.lowest reported.changes account.sum_is account.lowest_is;
      count_is = ap suc account.count_is ∙ sym (length-append reported.changes (value c ∷ []) ∙ add-one (length reported.changes));
      near = near-more row.sum row.opening row.closing row.returns (stock_after own last row) account.near;
      paid =
          paid_by area.received area.surrendered reported.received reported.surrendered reported.balance c
          same.received same.surrendered account.paid;
      live = λ e.
          held_by area.received area.surrendered reported.received reported.surrendered reported.balance c
          same.received same.surrendered account.paid row.sum row.lowest (change_of own last row) (change_alike last) (account.live e);
      over = λ e. absurd (let t : ◌≡◌ {A = Bool} false true = sym here ∙ e in let z : ◌≡◌ {A = ℕ} 0 1 = cc in omega arith);
    };
  }
    where
      c : Change
      c = Filing.change_of own schedule6 area last

      sum_more : (s : ℤ) (l : List ℤ) → s ≡ total l → s +ℤ change_of own last row ≡ total (l ++ (value c ∷ []))
      sum_more s l e = rw (e, ← (change_alike last)) (sym (total-more l (value c)))

      low_more : (s w : ℤ) (l : List ℤ) → s ≡ total l → w ≡ lowest l → lesser w (s +ℤ change_of own last row) ≡ lowest (l ++ (value c ∷ []))
      low_more s w l e f = rw (e, f, ← (change_alike last)) (sym (lowest-more l (value c)))

  -- W
  pub withdrawn_alike : Alike (withdrawn_area area) (with_withdrawal reported (balance_of area)) (withdrawn_row row)
  unfolding withdrawn_area
  withdrawn_alike = record {
    shown = record {
      number = same.number;
      opening = same.opening;
      received = same.received;
      surrendered = ap (λ (k : ℕ). k + balance_of area) same.surrendered;
      returns = same.returns;
      stock = same.stock;
      withdrawn = refl;
      subs = same.subs;
    };
    places = alike.places;
    settled = record {
      sum_is = account.sum_is;
      lowest_is = account.lowest_is;
      count_is = account.count_is;
      near = account.near;
      paid = omega (arith, same.received, same.surrendered, account.paid);
      live = λ e. absurd (let z : ◌≡◌ {A = ℕ} 0 1 = cc in omega arith);
      over = λ e. refl;
    };
  }
