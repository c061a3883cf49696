use Rattle.std.proofs.Common.{ap}
use Rattle.mux_writer.specs.Writing.{Writing}
use Rattle.shelf_io.specs.Facts.{shelf_facts}
use Rattle.job_pieces.proofs.Sent.{sent_none}
use Rattle.job_pieces.proofs.stream.SentStream.append.Goals as goal

pub loop-sending-init : goal.loop-sending-init
loop-sending-init g c = record {
  can = c.in-Ok.ensures.can (g.K.Shelf.files c.args.shelf.now) c.requires.held c.requires.versions;
  rows = ap (λ (w : Writing). w.rows) c.in-Ok.ensures.front;
  sent = sent_none c.args.self.now.lanes.now c.args.self.now.layout.now c.args.self.now.slot c.args.self.now.slots.now.rows c.args.out.now c.requires.apart
      (shelf_facts g.K.Shelf.files g.K.Shelf.counts g.K.Shelf.asked g.K.Shelf.since_fault c.args.shelf.now) c.in-Ok.sending.writer c.in-Ok.ensures.front;
}
