-- Why a program of a file isn't audited: the first of these in the order of reading (the order is this project's).
use Rattle.std.specs.Prelude.{◌≡◌, ◌≢◌, ◌⊎◌, ◌<◌, ◌≤◌, ℕ, List, [], ◌∷◌, ◌++◌, All, Some, None, true, length, pos}
use Rattle.audio_frames.specs.declared.frame.Frame.{Frame}
use Rattle.es_units.specs.Units.{first_sequence}
use Rattle.pes_units.specs.declared.pes_fault.PesFault.{PesFault}
use Rattle.ts_demux.specs.declared.demuxed.AudioStream.{AudioStream}
use Rattle.ts_demux.specs.declared.demuxed.Demuxed.{Demuxed}
use Rattle.ts_demux.specs.declared.demuxed.PesUnit.{PesUnit}
use Rattle.ts_demux.specs.declared.demux_fault.DemuxFault.{DemuxFault}
use Rattle.ts_demux.specs.declared.demux_fault.DemuxFault.TheVariants as demux_faults
use Rattle.ts_demux.specs.Demux.{AreStreamsSound, IsDemuxRefused, IsDemuxed}
use Rattle.ts_demux.specs.PidPlaces.{IsPlacesFault, places_on}
use Rattle.ts_demux.specs.Tables.{IsMapPid, pat_pid}
use Rattle.elementary_streams.specs.declared.stream_fault.StreamFault.{StreamFault}
use Rattle.elementary_streams.specs.declared.stream_fault.StreamFault.TheVariants as stream_faults
use Rattle.elementary_streams.specs.Packets.{AreSound, IsPacketFault, joined, taken}
use Rattle.stream_audit.specs.Removals.{AreInTime, first_time}
use Rattle.elementary_streams.specs.Audio.{HasFrames, IsStreamRefused}
use Rattle.stream_audit.specs.declared.audit_stop.AuditStop.{AuditStop}
use Rattle.stream_audit.specs.declared.audited_program.TheConstants.{AUDITED_BYTES_MOST}
use Rattle.stream_audit.specs.declared.file_clock.FoundClock.{FoundClock}
use Rattle.stream_audit.specs.declared.file_clock.TheConstants.{NULL_PID}
use Rattle.stream_audit.specs.declared.kept_units.KeptUnits.{KeptUnits}
use Rattle.stream_audit.specs.Clock.{IsClockOf, clock_of}
use Rattle.stream_audit.specs.declared.audit_stop.AuditStop.TheVariants.{Audio, Demux, NoPcr, NoSequence, Pes, ProgramLimit}
use Rattle.stream_audit.specs.declared.audit_stop.AuditStop.TheVariants as stops

-- ---- packets

-- a fault of packets or sections, or memory that was wanted for them
abbrev pub stop_of_demux : DemuxFault → AuditStop
stop_of_demux demux_faults.OutOfMemory = stops.OutOfMemory
stop_of_demux fault = Demux fault

-- The first packet that is refused for PID 0, or where none is the first one that is refused for the PID of the map; or memory was wanted.
abbrev pub IsSystemFault : List ℕ → (map_pid : ℕ) → DemuxFault → Type 0
IsSystemFault file map_pid fault = IsPlacesFault file pat_pid fault ⊎ (AreStreamsSound file (pat_pid ∷ []) × IsPlacesFault file map_pid fault)

-- ---- the clock

-- Why a file has no clock by the references on a PID: it is that of null packets, which says that there are none (2.4.4.9); else the first packet that is refused
-- for it, or memory that was wanted; else it has no reference.
pub data IsClockStopped (file : List ℕ) (slot pid : ℕ) (stop : AuditStop) : Type 0 where
  no_pid : pid ≡ NULL_PID → stop ≡ NoPcr → IsClockStopped file slot pid stop
  bad_packet : (fault : DemuxFault) → pid ≢ NULL_PID → IsPlacesFault file pid fault → stop ≡ stop_of_demux fault → IsClockStopped file slot pid stop
  no_reference : pid ≢ NULL_PID → AreStreamsSound file (pid ∷ []) → clock_of slot (places_on file pid) ≡ None → stop ≡ NoPcr → IsClockStopped file slot pid stop

-- ---- elementary streams

-- a fault of the stream on a PID
abbrev pub stop_of_stream : (pid : ℕ) → StreamFault → AuditStop
stop_of_stream pid (stream_faults.Pes at found) = Pes at found
stop_of_stream pid (stream_faults.Frames found) = Audio pid found
stop_of_stream pid stream_faults.OutOfMemory = stops.OutOfMemory

-- ---- video

-- Nothing refuses a video: its PES packets have no fault, and a sequence header stands in those that are taken.
pub record IsVideoSound (packets : List PesUnit) : Type 0 where
  pub sound : AreSound true packets
  pub from : ℕ
  pub sequence : first_sequence (joined (taken true packets)) ≡ Some from

-- What refuses a video: first its PES packets, then that it has no sequence header.
pub data IsVideoStopped (packets : List PesUnit) (stop : AuditStop) : Type 0 where
  bad_packet : (at : ℕ) (found : PesFault) → IsPacketFault true packets (stream_faults.Pes at found) → stop ≡ Pes at found → IsVideoStopped packets stop
  no_sequence : AreSound true packets → first_sequence (joined (taken true packets)) ≡ None → stop ≡ NoSequence → IsVideoStopped packets stop

-- ---- audio

-- Nothing refuses an audio stream of a program with these units: its PES packets have no fault, those that are taken are these frames, and none is due later than
-- 2^52 ticks.
pub record IsAudioSound (kept : KeptUnits) (stream : AudioStream) : Type 0 where
  pub frames : List Frame
  pub framed : HasFrames (pos (first_time kept)) stream frames
  pub in_time : AreInTime kept frames

-- What refuses an audio stream of a program with these units: its PES packets or its frames, else a frame that is due later.
pub data IsAudioStopped (kept : KeptUnits) (stream : AudioStream) (stop : AuditStop) : Type 0 where
  unread : (found : StreamFault) → IsStreamRefused (pos (first_time kept)) stream found → stop ≡ stop_of_stream stream.pid found → IsAudioStopped kept stream stop
  late : (frames : List Frame) → HasFrames (pos (first_time kept)) stream frames → (AreInTime kept frames → ⊥) → stop ≡ ProgramLimit → IsAudioStopped kept stream stop

-- The first one of some audio streams that is refused; those before it aren't.
pub record IsFirstAudioStopped (kept : KeptUnits) (audios : List AudioStream) (stop : AuditStop) : Type 0 where
  pub before : List AudioStream
  pub audio : AudioStream
  pub more : List AudioStream
  pub split : audios ≡ before ++ audio ∷ more
  pub sound : All (IsAudioSound kept) before
  pub refused : IsAudioStopped kept audio stop

-- ---- a program of a file

-- A program is taken out of a file, its map is on this PID, and no packet is refused for PID 0 or for that PID.
pub record AreTablesSound (file : List ℕ) (program : ℕ) (demuxed : Demuxed) (map_pid : ℕ) : Type 0 where
  pub file_fits : length file ≤ AUDITED_BYTES_MOST
  pub taken_out : IsDemuxed file program [] demuxed
  pub map_is : IsMapPid file program map_pid
  pub pat_sound : AreStreamsSound file (pat_pid ∷ [])
  pub map_sound : AreStreamsSound file (map_pid ∷ [])

-- What is read before the streams of a program: the program and the PID of its map, and the clock by the references on the PID that the map says.
pub record IsProgramRead (file : List ℕ) (program slot : ℕ) (demuxed : Demuxed) (map_pid : ℕ) (clock : FoundClock) : Type 0 where
  pub tables : AreTablesSound file program demuxed map_pid
  pub clock_is : IsClockOf file slot demuxed.map.pcr_pid clock

-- What refuses that: first a long file, then what refuses to take the program out, then the packets of PID 0 and of the map's PID, and then the clock.
pub data IsProgramStopped (file : List ℕ) (program slot : ℕ) (stop : AuditStop) : Type 0 where
  long_file : AUDITED_BYTES_MOST < length file → stop ≡ ProgramLimit → IsProgramStopped file program slot stop
  no_program : (fault : DemuxFault) → length file ≤ AUDITED_BYTES_MOST → IsDemuxRefused file program [] fault → stop ≡ stop_of_demux fault → IsProgramStopped file program slot stop
  bad_tables : (demuxed : Demuxed) (map_pid : ℕ) (fault : DemuxFault) → length file ≤ AUDITED_BYTES_MOST → IsDemuxed file program [] demuxed
      → IsMapPid file program map_pid → IsSystemFault file map_pid fault → stop ≡ stop_of_demux fault → IsProgramStopped file program slot stop
  no_clock : (demuxed : Demuxed) (map_pid : ℕ) → AreTablesSound file program demuxed map_pid → IsClockStopped file slot demuxed.map.pcr_pid stop
      → IsProgramStopped file program slot stop

-- What refuses a program that is to be audited: what is read before its streams, then its video, and then the first audio stream that is refused.
pub data IsAuditStopped (file : List ℕ) (program slot : ℕ) (kept : KeptUnits) (stop : AuditStop) : Type 0 where
  bad_program : IsProgramStopped file program slot stop → IsAuditStopped file program slot kept stop
  bad_video : (demuxed : Demuxed) (map_pid : ℕ) (clock : FoundClock) → IsProgramRead file program slot demuxed map_pid clock
      → IsVideoStopped demuxed.video stop → IsAuditStopped file program slot kept stop
  bad_audio : (demuxed : Demuxed) (map_pid : ℕ) (clock : FoundClock) → IsProgramRead file program slot demuxed map_pid clock
      → IsVideoSound demuxed.video → IsFirstAudioStopped kept demuxed.audios stop → IsAuditStopped file program slot kept stop
  memory : stop ≡ stops.OutOfMemory → IsAuditStopped file program slot kept stop
