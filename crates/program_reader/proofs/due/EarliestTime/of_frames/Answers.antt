use Rattle.program_reader.proofs.DueLemmas.{lowers_more}
use Rattle.program_reader.proofs.due.EarliestTime.of_frames.Goals as goal

pub loop-frame-preserved : goal.loop-frame-preserved
loop-frame-preserved c = lowers_more (λ frame. frame.time) c.args.frames.now c.loop-frame.frame-index _ c.args.self.ticks c.loop-frame.earliest.ticks c.of_frame-earliest.result.ticks
    c.loop-frame-test.true c.loop-frame.invariant c.of_frame-earliest.ensures
