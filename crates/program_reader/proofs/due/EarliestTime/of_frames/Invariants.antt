use Rattle.std.proofs.Common.{map, take}
use Rattle.program_reader.specs.Dues.{Lowers}
use Rattle.program_reader.proofs.due.EarliestTime.of_frames.Given as goal

abbrev pub invariant-loop-frame : goal.invariant-loop-frame
invariant-loop-frame l = Lowers (map (λ frame. frame.time) (take l.frame-index l.frames)) l.fn.self.ticks l.earliest.ticks
