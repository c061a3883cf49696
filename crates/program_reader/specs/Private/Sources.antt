-- What is read of a program's streams, before its times are those of the earliest one.
use Rattle.std.specs.Prelude.{ℕ, true, List, [], ◌∷◌, ◌++◌, map, All, ℤ}
use Rattle.std.specs.List.{flat_map}
use Rattle.ts_demux.specs.declared.demuxed.AudioStream.{AudioStream}
use Rattle.ts_demux.specs.declared.demuxed.Demuxed.{Demuxed}
use Rattle.ts_demux.specs.declared.demuxed.PesUnit.{PesUnit}
use Rattle.elementary_streams.specs.declared.audio_stream.ReadStream.{ReadStream}
use Rattle.program_reader.specs.declared.due_program.BesideVideo.{BesideVideo}
use Rattle.program_reader.specs.declared.kept_units.KeptUnit.{KeptUnit}
use Rattle.program_reader.specs.declared.timed_picture.TimedPicture.{TimedPicture}
use Rattle.program_reader.specs.declared.video_stream.ReadVideo.{ReadVideo}
use Rattle.program_reader.specs.KeptUnits.{AreRows}
use Rattle.program_reader.specs.Programs.{HasPictures}
use Rattle.elementary_streams.specs.NearTimes.{IsNear, IsTime}
use Rattle.elementary_streams.specs.Audio.{IsStreamRead}
use Rattle.program_reader.specs.Dues.{frame_times, IsTimeFrom}
use Rattle.elementary_streams.specs.Taken.{AreTaken}

-- what is taken out of a file, by its parts
abbrev pub with_video : BesideVideo → List PesUnit → Demuxed
with_video beside packets =
    record { map = beside.map; video = packets; audios = beside.audios; rest = beside.rest; not_carried = beside.not_carried }

-- the video of what is taken out of a file is read
pub record IsVideoRead (demuxed : Demuxed) (video : ReadVideo) : Type 0 where
  pub taken_are : AreTaken true demuxed.video video.taken
  pub kept : List (ℕ × ℕ)
  pub pictures : List TimedPicture
  pub has_pictures : HasPictures demuxed kept video.first pictures video.units_dropped
  pub rows : AreRows kept pictures video.units.items
  pub near : IsNear 0 video.first.stated
  pub ticks : All (λ unit. IsTime unit.ticks) video.units.items

-- an audio stream is read, and none of its frames is before the earliest time
pub record IsStreamFrom (earliest : ℤ) (stream : AudioStream) (read : ReadStream) : Type 0 where
  pub first : ℤ
  pub read_is : IsStreamRead first stream read
  pub late : All (λ frame. IsTimeFrom earliest frame.time) read.frames

-- audio streams, each so
abbrev pub AreStreamsFrom : ℤ → List AudioStream → List ReadStream → Type 0
AreStreamsFrom earliest [] [] = Unit {0}
AreStreamsFrom earliest [] (_ ∷ _) = ⊥
AreStreamsFrom earliest (_ ∷ _) [] = ⊥
AreStreamsFrom earliest (stream ∷ streams) (one ∷ more) = IsStreamFrom earliest stream one × AreStreamsFrom earliest streams more

-- the times of units and of the frames of streams
abbrev pub read_times : List KeptUnit → List ReadStream → List ℤ
read_times units read = map (λ unit. unit.ticks) units ++ frame_times read
