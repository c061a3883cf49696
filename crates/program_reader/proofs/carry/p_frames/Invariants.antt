use Rattle.std.proofs.Common.{◌≡◌, ◌+◌, ◌≤◌, drop}
use Rattle.program_reader.specs.declared.limits.TheConstants.{FRAMES_CARRIED_MOST}
use Rattle.program_reader.specs.Carry as spec
use Rattle.program_reader.proofs.carry.p_frames.Given as goal

abbrev pub invariant-loop-at : goal.invariant-loop-at
invariant-loop-at l = record {
  few : l.count ≤ FRAMES_CARRIED_MOST;
  counted : l.count + spec.p_frames (drop l.at l.units) ≡ spec.p_frames (drop l.from l.units);
}
