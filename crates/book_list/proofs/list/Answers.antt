-- `book_list::list` meets its contract: the listing is measured where there might be no room for it, and written where there is.
use Rattle.laws.proofs.{arith}
use Rattle.statement_write.proofs.Writable.{refused, accepted}
use Rattle.book_list.proofs.Room.{bounded, unmeasured}
use Rattle.book_list.proofs.list.Goals as goal

pub returns-then-out-ge-ROOM : goal.returns-then-out-ge-ROOM
returns-then-out-ge-ROOM c =
    let all = unmeasured c.args.book.now c.put_listing-count.ensures c.if-out-ge-ROOM.true in
    record { value = all.0; out_after = all.1 }

pub returns-then-out-need : goal.returns-then-out-need
returns-then-out-need c =
    let all = refused _ _ c.put_listing-need.ensures (bounded c.args.book.now) _ c.if-out-need.true in
    record { value = all.0; out_after = all.1 }

pub returns : goal.returns
returns c =
    let all = accepted _ _ c.put_listing-need.ensures (bounded c.args.book.now) _ _ _ (omega arith) c.put_listing-count-2.ensures in
    record { value = all.0; out_after = all.1 }
