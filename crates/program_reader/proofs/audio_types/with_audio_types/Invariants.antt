use Rattle.std.proofs.Common.{◌≡◌, ◌++◌, map, take}
use Rattle.ts_demux.specs.declared.demuxed.AudioStream.{AudioStream}
use Rattle.program_stream.specs.Streams.{map_stream}
use Rattle.elementary_streams.specs.Audio.{audio_type}
use Rattle.program_reader.proofs.audio_types.with_audio_types.Given as goal

abbrev pub invariant-loop-at : goal.invariant-loop-at
invariant-loop-at l = l.streams.items ≡ take 1 l.fn.program_map.streams.items ++ map (λ (audio : AudioStream). map_stream (audio_type audio) audio.pid) (take l.at l.audios)
