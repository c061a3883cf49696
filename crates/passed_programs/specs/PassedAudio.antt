-- An audio stream of a file that was read while the file passed out of a source, by its PES packets.
use Rattle.std.specs.Prelude.{◌≡◌, List, ℤ}
use Rattle.ts_demux.specs.declared.demuxed.AudioStream.{AudioStream}
use Rattle.ts_demux.specs.declared.demuxed.PesUnit.{PesUnit}
use Rattle.elementary_streams.specs.declared.audio_stream.ReadStream.{ReadStream}
use Rattle.elementary_streams.specs.declared.stream_fault.StreamFault.{StreamFault}
use Rattle.elementary_streams.specs.Audio.{IsStreamRead, IsStreamRefused}

-- what is read of an audio stream that has these PES packets, of a program whose video begins at this time
abbrev pub ReadsAudio : (first : ℤ) → List PesUnit → ReadStream → Type 0
ReadsAudio first packets read = (stream : AudioStream) → stream.units ≡ packets → IsStreamRead first stream read

-- what refuses such a stream
abbrev pub RefusesAudio : (first : ℤ) → List PesUnit → StreamFault → Type 0
RefusesAudio first packets fault = (stream : AudioStream) → stream.units ≡ packets → IsStreamRefused first stream fault
