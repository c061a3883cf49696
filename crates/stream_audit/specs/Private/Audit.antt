-- The streams of a program of a file, one by one; no public clause cites these.
use Rattle.std.specs.Prelude.{◌≡◌, ℕ, ◌<◌, ◌≤◌, ◌^◌, List, [], ◌∷◌, ◌++◌, All, length}
use Rattle.std.specs.List.{sum_by}
use Rattle.psi_tables.specs.declared.stream.Stream.{Stream}
use Rattle.ts_demux.specs.declared.demuxed.AudioStream.{AudioStream}
use Rattle.ts_demux.specs.declared.demuxed.Demuxed.{Demuxed}
use Rattle.ts_demux.specs.Demux.{AreStreamsSound}
use Rattle.stream_audit.specs.declared.audit_stop.AuditStop.{AuditStop}
use Rattle.stream_audit.specs.declared.audit_stop.AuditStop.TheVariants.{OutOfMemory}
use Rattle.stream_audit.specs.declared.audited_stream.AuditedStream.{AuditedStream}
use Rattle.stream_audit.specs.declared.kept_units.KeptUnits.{KeptUnits}
use Rattle.elementary_streams.specs.declared.pes_starts.TheConstants.{PES_PACKETS_MOST}
use Rattle.stream_audit.specs.declared.read_program.ReadProgram.{ReadProgram}
use Rattle.stream_audit.specs.Findings.{CanBeJudged}
use Rattle.stream_audit.specs.Refusals.{IsAudioSound, IsFirstAudioStopped, IsProgramRead, IsVideoSound, IsVideoStopped}
use Rattle.stream_audit.specs.Streams.{AreAudioStreams, system_stream}

-- what is read of a file before the streams of a program
pub record HasProgram (file : List ℕ) (program slot : ℕ) (read : ReadProgram) : Type 0 where
  pub map_pid : ℕ
  pub is_read : IsProgramRead file program slot read.demuxed map_pid read.clock
  pub system_is : read.system ≡ system_stream file map_pid
  pub system_judged : CanBeJudged read.system

-- an audio stream of a file of at most 512 megabytes: none of its packets is refused, and its PES packets are few and small
pub record IsCarriedAudio (file : List ℕ) (audio : AudioStream) : Type 0 where
  pub sound : AreStreamsSound file (audio.pid ∷ [])
  pub few : length audio.units ≤ PES_PACKETS_MOST
  pub few_bytes : sum_by (λ packet. length packet.bytes) audio.units < 2 ^ 31

-- streams with one more for each of some audio streams, none of which is refused
pub record AddsAudios (file : List ℕ) (zero : ℕ) (kept : KeptUnits) (audios : List AudioStream) (old new : List AuditedStream) : Type 0 where
  pub streams : List AuditedStream
  pub are : AreAudioStreams file zero kept audios streams
  pub sound : All (IsAudioSound kept) audios
  pub new_are : new ≡ old ++ streams

-- what is taken out of a file of at most 512 megabytes: a video for whose PID no packet is refused, and such audio streams
pub record CarriesStreams (file : List ℕ) (demuxed : Demuxed) : Type 0 where
  pub video : Stream
  pub others : List Stream
  pub video_is : demuxed.map.streams.items ≡ video ∷ others
  pub video_sound : AreStreamsSound file (video.pid ∷ [])
  pub audios : All (IsCarriedAudio file) demuxed.audios

-- what refuses the streams of a program: its video, else the first audio stream that is refused
pub data AreStreamsStopped (kept : KeptUnits) (demuxed : Demuxed) (stop : AuditStop) : Type 0 where
  memory : stop ≡ OutOfMemory → AreStreamsStopped kept demuxed stop
  bad_video : IsVideoStopped demuxed.video stop → AreStreamsStopped kept demuxed stop
  bad_audio : IsVideoSound demuxed.video → IsFirstAudioStopped kept demuxed.audios stop → AreStreamsStopped kept demuxed stop

-- streams with one more for each audio stream before these that are left; what is so for these is so for all
pub record AudiosSoFar (file : List ℕ) (zero : ℕ) (kept : KeptUnits) (audios : List AudioStream) (old : List AuditedStream) (left : List AudioStream) (streams : List AuditedStream)
    : Type 0 where
  pub found : List AuditedStream
  pub streams_are : streams ≡ old ++ found
  pub fits : (more : List AuditedStream) → AreAudioStreams file zero kept left more → AreAudioStreams file zero kept audios (found ++ more)
  pub sound : All (IsAudioSound kept) left → All (IsAudioSound kept) audios
  pub stops : (stop : AuditStop) → IsFirstAudioStopped kept left stop → IsFirstAudioStopped kept audios stop
