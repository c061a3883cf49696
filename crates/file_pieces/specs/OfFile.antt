-- Programs of files whose streams are sent.
use Rattle.std.specs.Prelude.{◌≡◌, ℕ, ◌<◌, List, [], length, slice_index, slice_index_or, None}
use Rattle.program_reader.specs.declared.program.Program.{Program}
use Rattle.version_maker.specs.declared.version.UnitVersion.{UnitVersion}
use Rattle.version_source.specs.Versions.{AreVideoVersions}
use Rattle.es_window.specs.declared.held_part.HeldPart.{HeldPart}
use Rattle.file_pieces.specs.declared.lane.VideoLane.{VideoLane}
use Rattle.file_pieces.specs.declared.stream_place.StreamPlace.{StreamPlace}
use Rattle.file_pieces.specs.Lane.{planned_size, unit_at}
use Rattle.file_pieces.specs.UnitAgain.{packet_in}

-- this stream is the one of a number of a program, 0 being its video
pub record IsStreamOf (program : Program) (index : ℕ) (part : HeldPart) (place : StreamPlace) : Type 0 where
  pub streams_are : place.streams.now ≡ program.map.streams.items
  pub index_is : place.index ≡ index
  pub part_is : place.part ≡ part

-- the units of a program are sent, each in a version whose PES packet has the size that is planned
pub record IsPlannedVideo (program : Program) (lane : VideoLane) : Type 0 where
  pub units_are : lane.units.now ≡ program.units
  pub versions : List (List UnitVersion)
  pub are_versions : AreVideoVersions program.video lane.coarser.now None program.units versions
  pub sizes : (number : ℕ) → number < length lane.units.now →
      length (packet_in (unit_at lane number).times (slice_index_or versions number []) (slice_index lane.choice.now number)) ≡ planned_size lane number
