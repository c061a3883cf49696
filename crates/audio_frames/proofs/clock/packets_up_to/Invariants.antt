use Rattle.std.proofs.Common.{ℕ, ◌<◌, ◌≤◌, ◌-◌, length}
use Rattle.audio_frames.specs.Private.Packets.{start_of}
use Rattle.audio_frames.proofs.clock.packets_up_to.Given as goal

abbrev pub invariant-loop-count : goal.invariant-loop-count
invariant-loop-count l = record {
  begun : l.from ≤ l.count;
  within : l.count ≤ length l.starts;
  before : (k : ℕ) → k < l.count → start_of l.starts k ≤ l.at;
}

abbrev pub decreases-loop-count : goal.decreases-loop-count
decreases-loop-count l = length l.starts - l.count
