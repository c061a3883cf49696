use Rattle.std.proofs.Common.{◌≡◌, ◌≤◌, ◌^◌, All, map, take}
use Rattle.stream_audit.specs.Private.FrameRemovals.{frame_removal}
use Rattle.stream_audit.proofs.FrameLaws.{Standing}
use Rattle.stream_audit.proofs.frame_removals.frame_removals.Given as goal

abbrev pub invariant-loop-frame : goal.invariant-loop-frame
invariant-loop-frame l = record {
  stands : Standing l.packets l.frames l.frame-index l.headers.packets.now;
  same : l.removals ≡ map (frame_removal l.clock l.packets) (take l.frame-index l.frames);
  fit : All (λ removal. removal.due ≤ 2 ^ 53) l.removals;
}
