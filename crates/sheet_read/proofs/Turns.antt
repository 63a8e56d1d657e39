-- Where the bytes lead, a byte at a time.
use Rattle.laws.proofs.{ℕ, ◌+◌, ◌≤◌, ◌<◌, ◌≡◌, List, add-one, length, get_or, drop, drop-cons, drop_of_length-le}
use Rattle.sheet_read.specs.{Reading, turned, reading_after}

module _ (s : List ℕ) (i : ℕ) (reading : Reading) where
  pub reading_on : i < length s → reading_after (turned reading (get_or s i 0)) (drop (i + 1) s) ≡ reading_after reading (drop i s)
  unfolding reading_after
  reading_on h = rw (add-one, drop-cons s i 0 h)

  pub reading_ends : length s ≤ i → reading_after reading (drop i s) ≡ reading
  unfolding reading_after
  reading_ends h = rw (drop_of_length-le s h)
