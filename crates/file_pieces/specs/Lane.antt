-- What is sent of each stream, and what must stand in its file for it.
use Rattle.std.specs.Prelude.{◌≡◌, ℕ, ◌+◌, ◌-◌, ◌<◌, ◌≤◌, ◌^◌, false, List, [], length, All, slice_index, slice_index_or, Option, None, IfSome}
use Rattle.shelf_io.specs.Files.{Files}
use Rattle.syntax_types.specs.declared.picture.SeqState.{SeqState}
use Rattle.pes_units.specs.VideoHeader.{AreInRange, IsBesidePts}
use Rattle.mux_writer.specs.Pieces.{HasPayloadSize}
use Rattle.version_table.specs.declared.table.Unit.{Unit as CodedUnit}
use Rattle.version_table.specs.Choice.{version_at}
use Rattle.program_reader.specs.declared.program.AudioPiece.{AudioPiece}
use Rattle.program_reader.specs.declared.program.UnitSource.{UnitSource}
use Rattle.program_reader.specs.declared.timed_picture.Role.TheVariants.{Frame}
use Rattle.version_maker.specs.declared.limits.TheConstants.{UNIT_BYTES_MOST}
use Rattle.version_source.specs.Sendable.{SpellInOrder, bytes_of_unit}
use Rattle.version_source.specs.Private.Sending.{LeaveBehind}
use Rattle.file_pieces.specs.declared.lane.AudioLane.{AudioLane}
use Rattle.file_pieces.specs.declared.lane.VideoLane.{VideoLane}
use Rattle.file_pieces.specs.declared.unit_again.UnitPlan.{UnitPlan}
use Rattle.file_pieces.specs.FileStream.{HasBytesTo, IsStreamPlace, bytes_of, file_of}
use Rattle.file_pieces.specs.UnitAgain.{IsPlannedSize}

-- ---- a video

-- the unit of a number; where there is none, one without bytes
abbrev pub unit_at : VideoLane → ℕ → UnitSource
unit_at lane number = slice_index_or lane.units.now number (record { begin = 0; end = 0; times = record { pts = None; dts = None }; due = 0; kind = 0; role = Frame })

-- the versions of the unit of a number; where there is none, none
abbrev pub row_at : VideoLane → ℕ → CodedUnit
row_at lane number = slice_index_or lane.rows.now number (record { due = 0; versions = record { items = [] } })

-- the bytes of the PES packet of a unit in the version that is chosen
abbrev pub planned_size : VideoLane → (number : ℕ) → ℕ
planned_size lane number = (version_at (row_at lane number) (slice_index lane.choice.now number)).bytes

-- this is sent of a unit
pub record IsPlanOf (lane : VideoLane) (number : ℕ) (plan : UnitPlan) : Type 0 where
  pub times_are : plan.times ≡ (unit_at lane number).times
  pub coarser_are : plan.coarser.now ≡ lane.coarser.now
  pub index_is : plan.index ≡ slice_index lane.choice.now number
  pub size_is : plan.size ≡ planned_size lane number

-- a unit may stand in a stream, is no longer than a unit may be, and a PES header can say its times
pub record IsUnitPlace (unit : UnitSource) : Type 0 where
  pub order : unit.begin ≤ unit.end
  pub short : unit.end - unit.begin ≤ UNIT_BYTES_MOST
  pub in_range : AreInRange unit.times
  pub beside : IsBesidePts unit.times

-- a version is chosen of each unit, which has one of that number
pub record IsVideoLane (lane : VideoLane) : Type 0 where
  pub place : IsStreamPlace lane.stream
  pub units_stand : All IsUnitPlace lane.units.now
  pub enough : length lane.units.now ≤ length lane.choice.now
  pub chosen : All (λ index. index ≤ length lane.coarser.now) lane.choice.now
  pub rows_enough : length lane.units.now ≤ length lane.rows.now
  pub rows_chosen : (number : ℕ) → number < length lane.units.now → slice_index lane.choice.now number < length (row_at lane number).versions.items

-- The file holds the video: no packet of its streams is refused; its units stand in the stream and spell pictures in order, and their PES packets have the sizes that are
-- planned.
pub record HoldsVideo (lane : VideoLane) (file : List ℕ) : Type 0 where
  pub stands : (number : ℕ) → number < length lane.units.now → HasBytesTo lane.stream (unit_at lane number).end file
  pub pictures : SpellInOrder (bytes_of lane.stream file) None lane.units.now
  pub planned : (number : ℕ) (before : Option SeqState) (plan : UnitPlan) → number < length lane.units.now → LeaveBehind (bytes_of lane.stream file) None lane.units.now number before
      → IsPlanOf lane number plan → IsPlannedSize before (bytes_of_unit (bytes_of lane.stream file) (unit_at lane number)) plan

-- where files are told, the lane's file holds the video
abbrev pub IsVideoHeld : Option Files → VideoLane → Type 0
IsVideoHeld told lane = IfSome (file_of told lane.stream) (HoldsVideo lane)

-- ---- an audio stream

-- the piece of a number; where there is none, one without bytes
abbrev pub piece_at : AudioLane → ℕ → AudioPiece
piece_at lane number = slice_index_or lane.pieces.now number (record { packet = record { due = 0; gone = 0; bytes = 0 }; start = false; at = 0 })

-- a piece may stand in a stream, and fits a packet
pub record IsPiecePlace (piece : AudioPiece) : Type 0 where
  pub size : HasPayloadSize piece.packet.bytes
  pub within : piece.at + piece.packet.bytes < 2 ^ 64

-- its pieces fit packets
pub record IsAudioLane (lane : AudioLane) : Type 0 where
  pub place : IsStreamPlace lane.stream
  pub pieces_stand : All IsPiecePlace lane.pieces.now

-- the file holds the pieces: no packet of its streams is refused, and each stands in the stream
abbrev pub HoldsAudio : AudioLane → (file : List ℕ) → Type 0
HoldsAudio lane file = All (λ piece. HasBytesTo lane.stream (piece.at + piece.packet.bytes) file) lane.pieces.now

-- where files are told, the lane's file holds the pieces
abbrev pub IsAudioHeld : Option Files → AudioLane → Type 0
IsAudioHeld told lane = IfSome (file_of told lane.stream) (HoldsAudio lane)
