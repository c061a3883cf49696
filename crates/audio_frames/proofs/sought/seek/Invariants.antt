use Rattle.std.proofs.Common.{ℕ, ◌<◌}
use Rattle.audio_frames.specs.Walk.{NeverFirst}
use Rattle.audio_frames.proofs.sought.seek.Given as goal

abbrev pub invariant-loop-at : goal.invariant-loop-at
invariant-loop-at l = (k : ℕ) → k < l.at → NeverFirst l.bytes k
