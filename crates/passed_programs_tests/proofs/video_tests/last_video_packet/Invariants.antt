use Rattle.std.proofs.Common.{◌+◌, ◌-◌, ◌≤◌, length}
use Rattle.passed_programs_tests.proofs.video_tests.last_video_packet.Given as goal

abbrev pub invariant-loop-at : goal.invariant-loop-at
invariant-loop-at l = (l.last ≤ length l.file) × (l.at ≤ length l.file)

abbrev pub decreases-loop-at : goal.decreases-loop-at
decreases-loop-at l = length l.file - l.at
