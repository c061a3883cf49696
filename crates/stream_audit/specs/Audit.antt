-- The first finding of a program of a file, by the model of the decoder (ISO/IEC 13818-1, 2.4.2).
use Rattle.std.specs.Prelude.{◌≡◌, ℕ, ◌<◌, ◌≤◌, ◌^◌, List, [], ◌∷◌, ◌++◌, length, map, All, Option}
use Rattle.std.specs.List.Sorted.{IsNonDecreasing}
use Rattle.stream_constants.specs.declared.main_level.TheConstants.{VBV_MOST}
use Rattle.psi_tables.specs.declared.stream.Stream.{Stream}
use Rattle.ts_demux.specs.declared.demuxed.Demuxed.{Demuxed}
use Rattle.stream_audit.specs.declared.audited_stream.AuditedStream.{AuditedStream}
use Rattle.stream_audit.specs.declared.file_clock.FoundClock.{FoundClock}
use Rattle.stream_audit.specs.declared.finding.Finding.{Finding}
use Rattle.stream_audit.specs.declared.kept_units.KeptUnits.{KeptUnits}
use Rattle.stream_audit.specs.Findings.{FindsBy}
use Rattle.stream_audit.specs.Refusals.{IsAudioSound, IsProgramRead, IsVideoSound}
use Rattle.stream_audit.specs.Removals.{bytes_of_units}
use Rattle.stream_audit.specs.Streams.{AreAudioStreams, IsVideoStream, system_stream}

-- ---- what an audit is handed

-- Units that can be audited: of a vbv buffer of Main level, due by 2^52 ticks and in order, their number and bytes far from the ends of their fields.
pub record AreAuditable (kept : KeptUnits) : Type 0 where
  pub in_level : kept.vbv ≤ VBV_MOST
  pub few : length kept.units < 2 ^ 32
  pub few_bytes : bytes_of_units kept < 2 ^ 63
  pub dues_fit : All (λ unit. unit.due ≤ 2 ^ 52) kept.units
  pub dues_rise : IsNonDecreasing (map (λ unit. unit.due) kept.units)

-- ---- what it answers

-- The streams of a program of a file, none of which is refused: the video, the audio streams in the order of the map, and the sections of PID 0 and of the map's PID.
pub record AreStreamsOf (file : List ℕ) (map_pid zero : ℕ) (kept : KeptUnits) (demuxed : Demuxed) (streams : List AuditedStream) : Type 0 where
  pub video : Stream
  pub others : List Stream
  pub video_is : demuxed.map.streams.items ≡ video ∷ others
  pub video_sound : IsVideoSound demuxed.video
  pub video_stream : AuditedStream
  pub is_video : IsVideoStream file zero kept video.pid demuxed.video video_stream
  pub audios_sound : All (IsAudioSound kept) demuxed.audios
  pub audio_streams : List AuditedStream
  pub are_audio : AreAudioStreams file zero kept demuxed.audios audio_streams
  pub streams_are : streams ≡ video_stream ∷ audio_streams ++ system_stream file map_pid ∷ []

-- A program of a file has this first finding, or none: the first of its clock references that is off, else the first of its streams.
pub record IsAudited (file : List ℕ) (program slot : ℕ) (kept : KeptUnits) (found : Option Finding) : Type 0 where
  pub demuxed : Demuxed
  pub map_pid : ℕ
  pub clock : FoundClock
  pub read : IsProgramRead file program slot demuxed map_pid clock
  pub streams : List AuditedStream
  pub streams_are : AreStreamsOf file map_pid clock.zero kept demuxed streams
  pub first : FindsBy slot demuxed.map.pcr_pid clock.off streams found
