-- Any listing is short of the greatest place, so that a measure is its length; and where there is room for any, no measure is needed.
use Rattle.std.specs.Prelude.{Ok}
use Rattle.laws.proofs.{ℕ, ◌≤◌, ◌≡◌, List, arith, length}
use Rattle.text.specs.{Wrote, greatest}
use Rattle.refusals.specs.{written, buffer_after, Written}
use Rattle.statement_write.specs.{writable}
use Rattle.statement_write.proofs.Writable.{accepted}
use Rattle.book_listing.specs.{listing_of}
use Rattle.book_room.specs.{room_for_any}
use Rattle.book_room.proofs.Bound.{listing_at_most}

module _ (book : List ℕ) where
  pub bounded : length (listing_of book) ≤ greatest
  bounded = omega (arith, listing_at_most book)

  module _ {buffer after : List ℕ} {n : ℕ} (w : Wrote buffer 0 (listing_of book) after n) (room : room_for_any ≤ length buffer) where
    pub unmeasured : (Ok n ≡ written (writable (listing_of book) (length buffer)) (listing_of book))
        × (after ≡ buffer_after (writable (listing_of book) (length buffer)) (listing_of book) buffer)
    unmeasured = accepted (listing_of book) n w bounded buffer after n (omega (arith, w.place, listing_at_most book)) w
