use Rattle.audio_frames.proofs.Timed.{TimedUpTo}
use Rattle.audio_frames.proofs.frame_times.timed_frames.Given as goal

abbrev pub invariant-loop-frame : goal.invariant-loop-frame
invariant-loop-frame l = TimedUpTo l.size l.rate l.starts l.places l.frame l.clock l.begin l.frames
