use Rattle.std.proofs.Common.{subst, sym}
use Rattle.shelf_io.proofs.Counted.{never_failed}
use Rattle.mux_writer.specs.Writing.{Writing}
use Rattle.shelf_io.specs.Facts.{shelf_facts}
use Rattle.job_pieces.specs.Appended.{HasStopped}
use Rattle.job_pieces.specs.Private.Sending.{HasSent}
use Rattle.job_pieces.proofs.Sent.{can_more, sent_more, served_going, stopped_filling, stopped_writing, written_counts}
use Rattle.job_pieces.proofs.sending.Sending.append_next.Goals as goal

pub returns-in-Err-clause-stopped : goal.returns-in-Err-clause-stopped
returns-in-Err-clause-stopped g c layout slot rows first sent =
    let seen = shelf_facts g.K.Shelf.files g.K.Shelf.counts g.K.Shelf.asked g.K.Shelf.since_fault in
    subst (HasStopped c.args.lanes.now layout slot rows c.args.out.now first (seen c.fill.new.shelf)) (sym c.in-Err.ensures.stopped)
    (stopped_filling c.args.lanes.now layout slot rows c.args.out.now c.requires.apart first (seen c.args.shelf.now) (seen c.fill.new.shelf) c.args.self.now.writer
    c.fill.new.self.pieces.stop sent c.in-Err.ensures.shelf)

pub returns-in-Ok-put-clause-can : goal.returns-in-Ok-put-clause-can
returns-in-Ok-put-clause-can g c =
    can_more c.args.lanes.now c.args.out.now c.requires.apart (g.K.Shelf.files c.args.shelf.now) (g.K.Shelf.files c.fill.new.shelf) (g.K.Shelf.files c.put.new.shelf)
    c.args.self.now c.fill.new.self c.put.new.self c.requires.can c.in-Ok.ensures.filled c.in-Ok.ensures.rows c.in-Ok.ensures.shelf.same_files c.put.ensures.alone
    c.in-Ok.ensures.going c.put.ensures.pieces c.put.ensures.writer c.in-Ok-put.ensures.empty

pub returns-in-Ok-put-clause-sent : goal.returns-in-Ok-put-clause-sent
returns-in-Ok-put-clause-sent g c layout slot rows first sent =
    let seen = shelf_facts g.K.Shelf.files g.K.Shelf.counts g.K.Shelf.asked g.K.Shelf.since_fault in
    subst (λ (writing : Writing). HasSent c.args.lanes.now layout slot rows c.args.out.now first (seen c.put.new.shelf) writing) (sym c.put.ensures.writer)
    (sent_more c.args.lanes.now layout slot rows c.args.out.now c.requires.apart first (seen c.args.shelf.now) (seen c.fill.new.shelf) (seen c.put.new.shelf) c.args.self.now c.fill.new.self
    sent c.in-Ok.ensures.filled
    (served_going c.args.lanes.now c.fill.new.self.pieces.stop (seen c.args.shelf.now) (seen c.fill.new.shelf) c.in-Ok.ensures.going c.in-Ok.ensures.shelf)
    c.put.ensures.alone c.in-Ok-put.ensures.ok (written_counts _ _ _ _ (λ bad. never_failed tt bad) c.in-Ok-put.ensures.causes) c.put.ensures.asked)

pub returns-in-Err-put-clause-stopped : goal.returns-in-Err-put-clause-stopped
returns-in-Err-put-clause-stopped g c layout slot rows first sent =
    let seen = shelf_facts g.K.Shelf.files g.K.Shelf.counts g.K.Shelf.asked g.K.Shelf.since_fault in
    stopped_writing c.args.lanes.now layout slot rows c.args.out.now c.requires.apart c.put.result first (seen c.args.shelf.now) (seen c.fill.new.shelf) (seen c.put.new.shelf)
    c.args.self.now c.fill.new.self c.in-Err-put.fault c.of_write.result sent c.in-Ok.ensures.filled
    (served_going c.args.lanes.now c.fill.new.self.pieces.stop (seen c.args.shelf.now) (seen c.fill.new.shelf) c.in-Ok.ensures.going c.in-Ok.ensures.shelf)
    c.put.ensures.alone c.in-Err-put.ensures.err c.in-Err-put.is c.put.ensures.causes c.in-Err-put.ensures.fault_last c.put.ensures.asked c.of_write.ensures.failed c.of_write.ensures.memory
