use Rattle.std.proofs.Common.{◌≡◌, ◌≤◌, ◌-◌, length, take}
use Rattle.audio_frames.specs.Walk.{IsWalked, bytes_seen}
use Rattle.audio_frames_tests.proofs.walk_tests.walked.Given as goal

abbrev pub invariant-loop-from : goal.invariant-loop-from
invariant-loop-from l = record {
  within : l.from ≤ length l.payload;
  seen : bytes_seen l.walk ≡ l.from;
  walked : IsWalked (take l.from l.payload) l.walk;
}

abbrev pub decreases-loop-from : goal.decreases-loop-from
decreases-loop-from l = length l.payload - l.from
