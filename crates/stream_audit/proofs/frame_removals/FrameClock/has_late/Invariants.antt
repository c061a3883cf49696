use Rattle.std.proofs.Common.{All, take, pos, ◌^◌, ◌+ℤ◌, ◌≤ℤ◌}
use Rattle.stream_audit.proofs.frame_removals.FrameClock.has_late.Given as goal

abbrev pub invariant-loop-frame : goal.invariant-loop-frame
invariant-loop-frame l = All (λ frame. (frame.time +ℤ l.self.offset) ≤ℤ pos (2 ^ 52)) (take l.frame-index l.frames)
