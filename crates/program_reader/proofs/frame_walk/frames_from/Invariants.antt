use Rattle.std.proofs.Common.{◌≡◌, ◌≤◌, ℕ, length}
use Rattle.program_reader.specs.Audio.{time_of_byte}
use Rattle.program_reader.proofs.frame_walk.frames_from.Given as goal

abbrev pub invariant-loop-frame : goal.invariant-loop-frame
invariant-loop-frame l = (later : ℕ) → l.place ≤ later → time_of_byte l.left later ≡ time_of_byte l.frames later

abbrev pub decreases-loop-frame : goal.decreases-loop-frame
decreases-loop-frame l = length l.left
