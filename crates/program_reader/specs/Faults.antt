-- What a program is refused for, by what the parts of its reading are refused for.
use Rattle.std.specs.Prelude.{ℕ}
use Rattle.ts_demux.specs.declared.demux_fault.DemuxFault.{DemuxFault}
use Rattle.ts_demux.specs.declared.demux_fault.DemuxFault.TheVariants as demux_faults
use Rattle.program_stream.specs.declared.split_fault.SplitFault.{SplitFault}
use Rattle.program_stream.specs.declared.split_fault.SplitFault.TheVariants as split_faults
use Rattle.pes_units.specs.declared.pes_fault.PesFault.{PesFault}
use Rattle.pes_units.specs.declared.pes_fault.PesFault.TheVariants as pes_faults
use Rattle.picture_grammar.specs.Refusal.{Refusal}
use Rattle.audio_frames.specs.declared.audio_fault.AudioFault.{AudioFault}
use Rattle.audio_frames.specs.declared.audio_fault.AudioFault.TheVariants as audio_faults
use Rattle.elementary_streams.specs.declared.stream_fault.StreamFault.{StreamFault}
use Rattle.elementary_streams.specs.declared.stream_fault.StreamFault.TheVariants as stream_faults
use Rattle.program_reader.specs.declared.program_fault.ProgramFault.{ProgramFault}
use Rattle.program_reader.specs.declared.program_fault.ProgramFault.TheVariants.{Refused, OutOfMemory}
use Rattle.program_reader.specs.declared.program_fault.SourceKind.{SourceKind}
use Rattle.program_reader.specs.declared.program_fault.SourceKind.TheVariants as kinds

-- what the transport packets and the tables are refused for
abbrev pub of_demux : DemuxFault → ProgramFault
of_demux (demux_faults.ShortFile at) = Refused kinds.ShortFile at
of_demux (demux_faults.Sync at) = Refused kinds.Sync at
of_demux (demux_faults.ErrorFlag at) = Refused kinds.ErrorFlag at
of_demux (demux_faults.Scrambled at) = Refused kinds.Scrambled at
of_demux (demux_faults.BadField at) = Refused kinds.BadField at
of_demux (demux_faults.Discontinuity at) = Refused kinds.Discontinuity at
of_demux (demux_faults.Gap at) = Refused kinds.Gap at
of_demux (demux_faults.BadSection at) = Refused kinds.BadSection at
of_demux (demux_faults.BadCrc at) = Refused kinds.BadCrc at
of_demux (demux_faults.NoPat at) = Refused kinds.NoPat at
of_demux (demux_faults.NoProgram at) = Refused kinds.NoProgram at
of_demux (demux_faults.NoPmt at) = Refused kinds.NoPmt at
of_demux (demux_faults.NoVideo at) = Refused kinds.NoVideo at
of_demux (demux_faults.ProgramLimit at) = Refused kinds.ProgramLimit at
of_demux (demux_faults.PmtTooLong at) = Refused kinds.PmtTooLong at
of_demux demux_faults.OutOfMemory = OutOfMemory

-- what the elements and streams of a program stream are refused for
abbrev pub of_split : SplitFault → ProgramFault
of_split (split_faults.ShortFile at) = Refused kinds.ShortFile at
of_split (split_faults.BadStart at) = Refused kinds.BadStart at
of_split (split_faults.BadPack at) = Refused kinds.BadPack at
of_split (split_faults.BadLength at) = Refused kinds.BadLength at
of_split (split_faults.NoVideo at) = Refused kinds.NoVideo at
of_split (split_faults.ProgramLimit at) = Refused kinds.ProgramLimit at
of_split split_faults.OutOfMemory = OutOfMemory

-- what a PES packet at a place of the file is refused for
abbrev pub of_pes : ℕ → PesFault → ProgramFault
of_pes at pes_faults.BadPrefix = Refused kinds.BadPrefix at
of_pes at pes_faults.Short = Refused kinds.Short at
of_pes at pes_faults.Scrambled = Refused kinds.Scrambled at
of_pes at pes_faults.BadMarker = Refused kinds.BadMarker at
of_pes at pes_faults.BadLength = Refused kinds.BadLength at

-- what a unit is refused for, by its headers and by its picture
abbrev pub source_kind_of : Refusal → SourceKind
source_kind_of Refusal.NoCode = kinds.NoCode
source_kind_of Refusal.TooMany = kinds.TooMany
source_kind_of Refusal.BadEscape = kinds.BadEscape
source_kind_of Refusal.BadType = kinds.BadType
source_kind_of Refusal.BadAddress = kinds.BadAddress
source_kind_of Refusal.BadPattern = kinds.BadPattern
source_kind_of Refusal.End = kinds.End
source_kind_of Refusal.Uncovered = kinds.Uncovered
source_kind_of Refusal.BadHeader = kinds.BadHeader
source_kind_of Refusal.NotMpeg2 = kinds.NotMpeg2
source_kind_of Refusal.Profile = kinds.Profile
source_kind_of Refusal.LowDelay = kinds.LowDelay
source_kind_of Refusal.Size = kinds.Size

-- what the frames of an audio stream are refused for
abbrev pub of_audio : AudioFault → ProgramFault
of_audio (audio_faults.NotLayer2 at) = Refused kinds.NotLayer2 at
of_audio (audio_faults.AudioSync at) = Refused kinds.AudioSync at
of_audio (audio_faults.NoAudioTime at) = Refused kinds.NoAudioTime at
of_audio (audio_faults.TimeOrder at) = Refused kinds.TimeOrder at
of_audio audio_faults.OutOfMemory = OutOfMemory

-- what an elementary stream is refused for
abbrev pub of_stream : StreamFault → ProgramFault
of_stream (stream_faults.Pes at found) = of_pes at found
of_stream (stream_faults.Frames found) = of_audio found
of_stream stream_faults.OutOfMemory = OutOfMemory
