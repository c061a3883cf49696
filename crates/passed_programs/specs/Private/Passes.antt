-- What passes over a file say of it: of the file that each of them read, and of the one file where it is told.
use Rattle.std.specs.Prelude.{◌≡◌, ◌⊎◌, ℕ, ◌+◌, ◌<◌, ◌≤◌, List, [], ◌∷◌, length, slice_get, Option, None, Some, IfSome, Result, Ok, Err, ℤ}
use Rattle.psi_tables.specs.Pmt.{pids_of}
use Rattle.shelf_io.specs.declared.fault.Fault.{Fault}
use Rattle.shelf_io.specs.declared.fault.Fault.TheVariants as outside
use Rattle.shelf_io.specs.Files.{Files}
use Rattle.file_pass.specs.FilePass.{left_to}
use Rattle.ts_demux.specs.declared.carried_streams.CarriedStreams.{CarriedStreams}
use Rattle.ts_demux.specs.declared.demux_fault.DemuxFault.{DemuxFault}
use Rattle.ts_demux.specs.declared.demuxed.PesUnit.{PesUnit}
use Rattle.ts_demux.specs.declared.pass_fault.PassFault.{PassFault}
use Rattle.ts_demux.specs.declared.pass_fault.PassFault.TheVariants as passes
use Rattle.ts_demux.specs.CarriedMap.{HasStreams}
use Rattle.ts_demux.specs.Demux.{IsDemuxRefused, IsFirstStreamFault}
use Rattle.elementary_streams.specs.declared.audio_stream.ReadStream.{ReadStream}
use Rattle.elementary_streams.specs.declared.stream_fault.StreamFault.{StreamFault}
use Rattle.program_reader.specs.declared.program_fault.ProgramFault.{ProgramFault}
use Rattle.program_reader.specs.declared.program_fault.ProgramFault.TheVariants as program_faults
use Rattle.program_reader.specs.declared.unit_sizes.SizesWanted.{SizesWanted}
use Rattle.program_reader.specs.Faults.{of_demux, of_stream}
use Rattle.passed_programs.specs.declared.read_fault.ReadFault.TheVariants as video_faults
use Rattle.passed_programs.specs.declared.read_fault.ReadFault.{ReadFault as VideoReadFault}
use Rattle.passed_programs.specs.PassedVideo.{IsVideoRead, IsVideoRefused}
use Rattle.stream_pass.specs.declared.limits.TheConstants.{PES_PACKETS_MOST}
use Rattle.stream_pass.specs.declared.read_fault.ReadFault.TheVariants as stream_faults
use Rattle.stream_pass.specs.declared.read_fault.ReadFault.{ReadFault as StreamReadFault}
use Rattle.stream_pass.specs.PassedStream.{HasPackets, IsOfStream, IsOverLimit}
use Rattle.passed_programs.specs.PassedAudio.{ReadsAudio, RefusesAudio}
use Rattle.passed_programs.specs.declared.passed_fault.PassedFault.{PassedFault}
use Rattle.passed_programs.specs.declared.passed_fault.PassedFault.TheVariants.{Failed, Missing, Refused}
use Rattle.passed_programs.specs.declared.stream_stop.StreamStop.{StreamStop}
use Rattle.passed_programs.specs.declared.stream_stop.StreamStop.TheVariants as stops
use Rattle.passed_programs.specs.declared.passes.VideoPassed.{VideoPassed}
use Rattle.passed_programs.specs.PassedFile.{OnRefused, passes_limit, stop_of}

-- ---- the file of a pass

-- the first bytes of a file, up to a limit, where files are told
abbrev pub front_of : Option Files → (name : List ℕ) → (limit : ℕ) → Option (List ℕ)
front_of told name limit = left_to told name limit 0

-- P holds of what a pass read, and of what is told, where it is
pub record OfFront (front : Option (List ℕ)) (P : List ℕ → Type 0) : Type 0 where
  pub file : List ℕ
  pub told : IfSome front (λ whole. whole ≡ file)
  pub holds : P file

-- ---- faults of passes

-- a fault of the outside that no read remembers says no more than want of memory
abbrev pub of_outside : Fault → PassedFault
of_outside outside.Failed = Failed
of_outside outside.Missing = Missing
of_outside outside.OutOfMemory = Refused program_faults.OutOfMemory

abbrev pub of_pass : PassFault → PassedFault
of_pass (passes.Outside fault) = Refused program_faults.OutOfMemory
of_pass (passes.Refused fault) = Refused (of_demux fault)

abbrev pub of_audio_pass : StreamReadFault PassFault StreamFault → StreamStop StreamFault
of_audio_pass (stream_faults.Passing fault) = stops.Ended (of_pass fault)
of_audio_pass stream_faults.Limit = stops.Ended (Refused passes_limit)
of_audio_pass (stream_faults.Refused fault) = stops.Refused fault
of_audio_pass stream_faults.OutOfMemory = stops.Ended (Refused program_faults.OutOfMemory)

abbrev pub of_video_pass : VideoReadFault → StreamStop ProgramFault
of_video_pass (video_faults.Passing fault) = stops.Ended (of_pass fault)
of_video_pass (video_faults.Refused (program_faults.Refused kind at)) = stops.Refused (program_faults.Refused kind at)
of_video_pass (video_faults.Refused program_faults.OutOfMemory) = stops.Ended (Refused program_faults.OutOfMemory)

-- ---- what refuses the streams

-- what ends all passes: the first transport packet of these PIDs that is refused, or a limit that is passed
pub data EndsPasses (pids file : List ℕ) (fault : ProgramFault) : Type 0 where
  bad_packet : (found : DemuxFault) → IsFirstStreamFault file pids found → fault ≡ of_demux found → EndsPasses pids file fault
  over_limit : (index : ℕ) → IsOverLimit file pids index → fault ≡ passes_limit → EndsPasses pids file fault

-- what is said of a fault, where the file is told
abbrev pub IsOfTold : Option (List ℕ) → (R : List ℕ → ProgramFault → Type 0) → PassedFault → Type 0
IsOfTold front R fault = OnRefused fault (λ found. IfSome front (λ file. R file found))

-- why a stream isn't read
abbrev pub IsStoppedBy : {F : Type 0} → Option (List ℕ) → (pids : List ℕ) → (R : List ℕ → F → Type 0) → StreamStop F → Type 0
IsStoppedBy front pids R (stops.Ended fault) = IsOfTold front (EndsPasses pids) fault
IsStoppedBy front pids R (stops.Refused fault) = IfSome front (λ file. R file fault)

-- how the reads of a file ended by what is answered of one stream
abbrev pub stop_of_stream : {F : Type 0} → StreamStop F → Option Fault
stop_of_stream (stops.Ended fault) = stop_of fault
stop_of_stream (stops.Refused fault) = None

abbrev pub stream_stop_in : {T F : Type 0} → Result T (StreamStop F) → Option Fault
stream_stop_in (Ok read) = None
stream_stop_in (Err stop) = stop_of_stream stop

-- what ends all passes by what is answered of an audio stream, and how its reads ended then
abbrev pub ended_in : Result ReadStream (StreamStop StreamFault) → Option PassedFault
ended_in (Ok read) = None
ended_in (Err (stops.Ended fault)) = Some fault
ended_in (Err (stops.Refused fault)) = None

abbrev pub stop_at : Option PassedFault → Option Fault
stop_at None = None
stop_at (Some fault) = stop_of fault

-- ---- the streams behind

-- the stream of a number has no more PES packets than a program may have of one
abbrev pub IsFew : (file pids : List ℕ) → (index : ℕ) → Type 0
IsFew file pids index = (packets : List PesUnit) → HasPackets file pids index packets → length packets ≤ PES_PACKETS_MOST

-- so have those from a number on
abbrev pub AreFewFrom : (file pids : List ℕ) → (from : ℕ) → Type 0
AreFewFrom file pids from = (k : ℕ) → from ≤ k → IsFew file pids k

-- what is said of a stream that is refused for this, and of those from the number behind it on
pub data IsRefusedBehind (pids : List ℕ) (from : ℕ) (own : ProgramFault) (file : List ℕ) (fault : ProgramFault) : Type 0 where
  ends : EndsPasses pids file fault → IsRefusedBehind pids from own file fault
  itself : fault ≡ own → AreFewFrom file pids from → IsRefusedBehind pids from own file fault

-- what refuses the video of a file, and those behind it
pub data IsVideoFault (pids file : List ℕ) (fault : ProgramFault) : Type 0 where
  ends : EndsPasses pids file fault → IsVideoFault pids file fault
  refused : IsVideoRefused file pids fault → AreFewFrom file pids 1 → IsVideoFault pids file fault

-- what refuses the stream of a number, and those behind it
pub data IsAudioFaultAt (pids : List ℕ) (index : ℕ) (first : ℤ) (file : List ℕ) (fault : ProgramFault) : Type 0 where
  ends : EndsPasses pids file fault → IsAudioFaultAt pids index first file fault
  refused : (found : StreamFault) → IsOfStream file pids index (RefusesAudio first) found → AreFewFrom file pids (index + 1) → fault ≡ of_stream found
      → IsAudioFaultAt pids index first file fault

-- audio streams were read, from the stream of a number on, each of a file that was told so
abbrev pub AreAudiosPassed : Option (List ℕ) → (pids : List ℕ) → (first : ℤ) → ℕ → List ReadStream → Type 0
AreAudiosPassed front pids first index [] = Unit {0}
AreAudiosPassed front pids first index (read ∷ more) = OfFront front (λ file. IsOfStream file pids index (ReadsAudio first) read) × AreAudiosPassed front pids first (index + 1) more

-- so they were of one file
abbrev pub AreAudiosOf : (file pids : List ℕ) → (first : ℤ) → ℕ → List ReadStream → Type 0
AreAudiosOf file pids first index [] = Unit {0}
AreAudiosOf file pids first index (read ∷ more) = IsOfStream file pids index (ReadsAudio first) read × AreAudiosOf file pids first (index + 1) more

-- what refuses the audio streams: the first one that is, behind those that were read
pub record IsAudiosFault (pids : List ℕ) (first : ℤ) (file : List ℕ) (fault : ProgramFault) : Type 0 where
  pub done : List ReadStream
  pub done_are : AreAudiosOf file pids first 1 done
  pub fault_at : IsAudioFaultAt pids (1 + length done) first file fault

-- ---- all of them

-- what the tables of a file are refused for
abbrev pub IsMapFault : (number : ℕ) → (drop : List ℕ) → List ℕ → ProgramFault → Type 0
IsMapFault number drop file fault = (found : DemuxFault) × IsDemuxRefused file number drop found × (fault ≡ of_demux found)

-- a video was read of a file of so many bytes
abbrev pub IsVideoPassed : (pids : List ℕ) → (wanted : SizesWanted) → VideoPassed → List ℕ → Type 0
IsVideoPassed pids wanted passed file = (passed.size ≡ length file) × IsVideoRead file pids wanted passed.video

-- All carried streams were read: their map, the video, and each audio stream.
pub record AreStreamsPassed (front : Option (List ℕ)) (limit number : ℕ) (drop : List ℕ) (wanted : SizesWanted) (carried : CarriedStreams) (passed : VideoPassed) (audios : List ReadStream) : Type 0 where
  pub map_read : OfFront front (HasStreams number drop carried)
  pub video_read : OfFront front (IsVideoPassed (pids_of carried.map) wanted passed)
  pub within : passed.size ≤ limit
  pub audios_read : AreAudiosPassed front (pids_of carried.map) passed.video.first.stated 1 audios
  pub all_read : 1 + length audios ≡ length carried.map.streams.items
