use Rattle.std.proofs.Common.{◌≡◌, ℕ, false, ◌<◌}
use Rattle.audio_frames.specs.Frames.{is_first}
use Rattle.audio_frames.proofs.first_frame.find_first.Given as goal

abbrev pub invariant-loop-at : goal.invariant-loop-at
invariant-loop-at l = (k : ℕ) → k < l.at → is_first l.payload k ≡ false
