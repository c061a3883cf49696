-- Audio streams that are read, one behind the other.
use Rattle.std.specs.Prelude.{List, [], ◌∷◌, ℤ}
use Rattle.ts_demux.specs.declared.demuxed.AudioStream.{AudioStream}
use Rattle.elementary_streams.specs.declared.audio_stream.ReadStream.{ReadStream}
use Rattle.elementary_streams.specs.Audio.{IsStreamRead}

-- audio streams of a program whose video begins at this time are read, each so
abbrev pub AreStreamsRead : ℤ → List AudioStream → List ReadStream → Type 0
AreStreamsRead first [] [] = Unit {0}
AreStreamsRead first [] (_ ∷ _) = ⊥
AreStreamsRead first (_ ∷ _) [] = ⊥
AreStreamsRead first (stream ∷ streams) (one ∷ more) = IsStreamRead first stream one × AreStreamsRead first streams more
