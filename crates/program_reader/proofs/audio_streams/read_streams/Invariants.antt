use Rattle.std.proofs.Common.{take}
use Rattle.program_reader.specs.Private.AudioStreams.{AreStreamsRead}
use Rattle.program_reader.proofs.audio_streams.read_streams.Given as goal

abbrev pub invariant-loop-stream : goal.invariant-loop-stream
invariant-loop-stream l = AreStreamsRead l.first.time (take l.stream-index l.streams) l.read.items
