use Rattle.stream_audit.proofs.AudioFacts.{all_in_time, one_in_time}
use Rattle.stream_audit.proofs.frame_removals.FrameClock.has_late.Goals as goal

pub loop-frame-preserved : goal.loop-frame-preserved
loop-frame-preserved c =
    one_in_time c.args.self.now.offset c.args.frames.now c.loop-frame.frame-index _ c.loop-frame-test.true (c.is_late.ensures.in_time c.if-is_late.false) c.loop-frame.invariant

pub returns-clause-in_time : goal.returns-clause-in_time
returns-clause-in_time c = λ _. all_in_time c.args.self.now.offset c.args.frames.now c.loop-frame.frame-index c.loop-frame-test.false c.loop-frame.invariant
