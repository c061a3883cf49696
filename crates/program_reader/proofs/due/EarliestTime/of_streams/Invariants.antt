use Rattle.std.proofs.Common.{take}
use Rattle.program_reader.specs.Dues.{frame_times, Lowers}
use Rattle.program_reader.proofs.due.EarliestTime.of_streams.Given as goal

abbrev pub invariant-loop-stream : goal.invariant-loop-stream
invariant-loop-stream l = Lowers (frame_times (take l.stream-index l.streams)) l.fn.self.ticks l.earliest.ticks
