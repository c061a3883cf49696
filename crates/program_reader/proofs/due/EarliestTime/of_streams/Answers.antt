use Rattle.program_reader.proofs.ProgramLemmas.{streams_lower}
use Rattle.program_reader.proofs.due.EarliestTime.of_streams.Goals as goal

pub loop-stream-preserved : goal.loop-stream-preserved
loop-stream-preserved c = streams_lower c.args.streams.now c.loop-stream.stream-index c.stream-item.result c.as_slice.result.now c.args.self.ticks c.loop-stream.earliest.ticks
    c.of_frames-earliest.result.ticks c.loop-stream-test.true c.stream-item.is c.as_slice.ensures c.loop-stream.invariant c.of_frames-earliest.ensures
