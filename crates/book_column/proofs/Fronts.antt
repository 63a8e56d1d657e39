-- A T line leaves a table in front of the array: the longer one where it is accepted, and else the one before.
use Rattle.std.specs.Prelude.{Ok, Err}
use Rattle.laws.proofs.{ℕ, ◌≤◌, ◌≡◌, refl, List, arith, length, take, drop, length-append, length-drop, take-append_seam}
use Rattle.refusals.specs.{Verdict, buffer_after}
use Rattle.table.specs.{longest_table}
use Rattle.table_grow.specs.{longer_by, growable}
use Rattle.table_grow.proofs.Fits.{longer-fits}
use Rattle.book_listing.specs.{if_accepted}
use Rattle.book_column.specs.{column_numbers, column_count, Fronts}

module _ (numbers : List ℕ) (count : ℕ) (fits : count ≤ longest_table) (long : length numbers ≡ longest_table) where
  abbrev own : List ℕ
  own = take count numbers

  -- the table stays, whatever the verdict
  pub stays : (v : Verdict) → Fronts numbers count (if_accepted v own own)
  stays (Ok _) = record { front = refl; fits = fits; whole = long }
  stays (Err r) = record { front = refl; fits = fits; whole = long }

  module _ (areas : ℕ) (line : List ℕ) where
    abbrev longer : List ℕ
    longer = longer_by own line

    by_verdict : (v : Verdict) → growable own areas line ≡ v
        → Fronts (buffer_after v longer numbers) (if_accepted v (length longer) count) (if_accepted v longer own)
    unfolding buffer_after
    by_verdict (Ok _) clear =
        let room = longer-fits own areas line clear in
        record {
          front = take-append_seam longer (drop (length longer) numbers);
          fits = room;
          whole = omega (arith, length-append longer (drop (length longer) numbers), length-drop {A = ℕ} (length longer) numbers, long, room);
        }
    by_verdict (Err r) e = stays (Err r)

    pub column_leaves : Fronts (column_numbers numbers count areas line) (column_count numbers count areas line) (if_accepted (growable own areas line) longer own)
    unfolding column_numbers column_count
    column_leaves = by_verdict (growable own areas line) refl
