-- The engine and the ledger agree under a number: neither has anything under it and nothing was reported, or an area and a row that are alike.
-- A refused step leaves this as it is, and so do an area opened and an area changed on both sides.
use Rattle.std.specs.Prelude.{Some}
use Rattle.laws.proofs.{ℕ, ◌+◌, ◌<◌, Bool, true, false, cond, ◌≡◌, refl, sym, ap, ◌∙◌, List, [], ◌∷◌, ◌++◌, arith, add-one, eqb-true, eqb-false, eqb, length, take, get_or, set, length-set}
use mathlib.Core.Option.{Option, none, some}
use lib.Seq.{take-suc-set}
use Rattle.holding.specs.{Area, Holding, most_areas, areas_of, empty_area, opened_area, find_area}
use Rattle.theorem_ledger.specs.{change, Row, row_number, opened}
use Rattle.theorem_accounts.specs.{Reported, nothing_reported, under}
use Rattle.theorem_accounts.proofs.Keyed.{under_bears, under_more, under_last, under-changed, under_other, standing_here, standing_changed}
use Rattle.theorem_accounts.proofs.Alike.{Alike, opened_alike}

abbrev pub area_number : Area → ℕ
area_number area = area.number

abbrev pub Matched : Option Area → Option Row → Reported → Type 0
Matched none none reported = reported ≡ nothing_reported
Matched none (some row) reported = ⊥
Matched (some area) none reported = ⊥
Matched (some area) (some row) reported = Alike area reported row

pub record Agreed (n : ℕ) (holding : Holding) (rows : List Row) (reported : Reported) : Type 0 where
  pub places : length holding.areas ≡ most_areas
  pub matched : Matched (under area_number n (areas_of holding)) (under row_number n rows) reported

matched_by : (o p : Option Area) (q r : Option Row) (s t : Reported) → p ≡ o → r ≡ q → t ≡ s → Matched o q s → Matched p r t
matched_by o p q r s t e f g h = rw (e, f, g) h

module _ (n : ℕ) (holding : Holding) (rows : List Row) (reported : Reported) (agreed : Agreed n holding rows reported) (m : ℕ) where
  -- an area opened
  pub opened_agreed : (year : ℕ) → holding.count < most_areas
      → Agreed n (record { count = holding.count + 1; areas = set holding.areas holding.count (opened_area m year) })
      (rows ++ (opened m year ∷ [])) reported
  opened_agreed year h = record {
    places = length-set holding.areas holding.count (opened_area m year) ∙ agreed.places;
    matched =
        matched_by (under area_number n (areas_of holding ++ (opened_area m year ∷ []))) _ (under row_number n (rows ++ (opened m year ∷ []))) _ reported reported
        (ap (under area_number n) (one_more holding.count holding.areas agreed.places h)) refl refl
        (go (under area_number n (areas_of holding)) refl (under row_number n rows) refl agreed.matched);
  }
    where
      one_more : (k : ℕ) (l : List Area) → length l ≡ most_areas → k < most_areas
          → take (k + 1) (set l k (opened_area m year)) ≡ take k l ++ (opened_area m year ∷ [])
      one_more k l e h = rw (add-one k) (take-suc-set l k (opened_area m year) (omega arith))

      first : (t : Bool) → reported ≡ nothing_reported → Matched (cond t (some (opened_area m year)) none) (cond t (some (opened m year)) none) reported
      first true e = rw e (opened_alike m year)
      first false e = e

      go : (o : Option Area) → under area_number n (areas_of holding) ≡ o → (q : Option Row) → under row_number n rows ≡ q → Matched o q reported
          → Matched (under area_number n (areas_of holding ++ (opened_area m year ∷ []))) (under row_number n (rows ++ (opened m year ∷ []))) reported
      go none u none v k =
          matched_by _ _ _ _ reported reported
          (under_last area_number n (areas_of holding) (opened_area m year) u) (under_last row_number n rows (opened m year) v) refl (first (eqb m n) k)
      go none u (some row) v k = absurd k
      go (some area) u none v k = absurd k
      go (some area) u (some row) v k =
          matched_by (some area) _ (some row) _ reported reported
          (under_more area_number n (areas_of holding) (opened_area m year) area u) (under_more row_number n rows (opened m year) row v) refl k

  -- an area changed at the place where its number was found
  module _ (i : ℕ) (found : find_area holding m ≡ Some i) (area : Area) (f : Row → Row) (after : Reported) where
    abbrev before : Area
    before = get_or holding.areas i empty_area

    stands : under area_number m (areas_of holding) ≡ some before
    unfolding find_area
    stands = standing_here area_number m holding.areas holding.count i empty_area found

    stored : take holding.count (set holding.areas i area) ≡ change area_number m (λ (a : Area). area) (areas_of holding)
    unfolding find_area
    stored = standing_changed area_number m holding.areas holding.count i empty_area (λ (a : Area). area) found

    pub changed_agreed : area.number ≡ before.number → ((row : Row) → (f row).number ≡ row.number)
        → (m ≡ n → (row : Row) → Alike before reported row → Alike area after (f row)) → ((m ≡ n → ⊥) → after ≡ reported)
        → Agreed n (record { count = holding.count; areas = set holding.areas i area }) (change row_number m f rows) after
    changed_agreed number row_numbered alike other = record {
      places = length-set holding.areas i area ∙ agreed.places;
      matched = matched_by _ _ (under row_number n (change row_number m f rows)) _ after after (ap (under area_number n) stored) refl refl (go (eqb m n) refl);
    }
      where
        bears : (a : Area) → a.number ≡ m → area.number ≡ m
        bears a e = number ∙ under_bears area_number m (areas_of holding) before stands

        keeps : (row : Row) → row.number ≡ m → (f row).number ≡ m
        keeps row e = row_numbered row ∙ e

        hit : (e : m ≡ n) (q : Option Row) → under row_number n rows ≡ q → Matched (some before) q reported
            → Matched (under area_number n (change area_number m (λ (a : Area). area) (areas_of holding))) (under row_number n (change row_number m f rows)) after
        hit e none u k = absurd k
        hit e (some row) u k =
            matched_by (some area) _ (some (f row)) _ after after
            (ap (λ (j : ℕ). under area_number j (change area_number m (λ (a : Area). area) (areas_of holding))) (sym e)
            ∙ under-changed area_number m (λ (a : Area). area) bears (areas_of holding) before stands)
            (ap (λ (j : ℕ). under row_number j (change row_number m f rows)) (sym e)
            ∙ under-changed row_number m f keeps rows row (ap (λ (j : ℕ). under row_number j rows) e ∙ u))
            refl (alike e row k)

        go : (t : Bool) → eqb m n ≡ t
            → Matched (under area_number n (change area_number m (λ (a : Area). area) (areas_of holding))) (under row_number n (change row_number m f rows)) after
        go true t =
            let e : m ≡ n = eqb-true m n t in
            hit e (under row_number n rows) refl
            (matched_by (under area_number n (areas_of holding)) (some before) (under row_number n rows) _ reported reported
            (sym (ap (λ (j : ℕ). under area_number j (areas_of holding)) (sym e) ∙ stands)) refl refl agreed.matched)
        go false t =
            let d = eqb-false m n t in
            matched_by (under area_number n (areas_of holding)) _ (under row_number n rows) _ reported after
            (under_other area_number m (λ (a : Area). area) bears n (areas_of holding) d) (under_other row_number m f keeps n rows d) (other d) agreed.matched
