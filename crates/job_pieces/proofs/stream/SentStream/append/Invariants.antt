use Rattle.std.proofs.Common.{◌≡◌, ◌-◌, length}
use Rattle.shelf_io.specs.Facts.{shelf_facts}
use Rattle.job_pieces.specs.Private.Sending.{CanGoOn, HasSent}
use Rattle.job_pieces.proofs.stream.SentStream.append.Given as goal

abbrev pub invariant-loop-sending : goal.invariant-loop-sending
invariant-loop-sending g l = record {
  can : CanGoOn l.self.lanes.now (g.K.Shelf.files l.shelf) l.sending;
  rows : l.sending.writer.rows ≡ l.self.slots.now.rows;
  sent : HasSent l.self.lanes.now l.self.layout.now l.self.slot l.self.slots.now.rows l.out (shelf_facts g.K.Shelf.files g.K.Shelf.counts g.K.Shelf.asked g.K.Shelf.since_fault l.fn.shelf)
      (shelf_facts g.K.Shelf.files g.K.Shelf.counts g.K.Shelf.asked g.K.Shelf.since_fault l.shelf) l.sending.writer;
}

abbrev pub decreases-loop-sending : goal.decreases-loop-sending
decreases-loop-sending g l = length l.self.slots.now.rows - l.sending.writer.at
