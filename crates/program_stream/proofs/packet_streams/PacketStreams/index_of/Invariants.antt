use Rattle.std.proofs.Common.{◌≡◌, take, false}
use Rattle.ts_demux.specs.Streams.{is_among}
use Rattle.program_stream.specs.Private.Walks.{stream_ids}
use Rattle.program_stream.proofs.packet_streams.PacketStreams.index_of.Given as goal

abbrev pub invariant-loop-index : goal.invariant-loop-index
invariant-loop-index l = is_among (take l.index (stream_ids l.self.streams.items)) l.id ≡ false
