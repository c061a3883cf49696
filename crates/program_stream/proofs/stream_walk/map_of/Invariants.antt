use Rattle.std.proofs.Common.{◌≡◌, ◌∷◌, map, take}
use Rattle.ts_demux.specs.declared.demuxed.AudioStream.{AudioStream}
use Rattle.program_stream.specs.Streams.{map_stream}
use Rattle.program_stream.proofs.stream_walk.map_of.Given as goal

abbrev pub invariant-loop-stream : goal.invariant-loop-stream
invariant-loop-stream l = l.streams.items ≡ map_stream 2 l.video ∷ map (map_stream 3) (map (λ (stream : AudioStream). stream.pid) (take l.stream-index l.audios))
