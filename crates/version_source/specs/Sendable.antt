-- What must stand in a program so that each of its pieces can be made.
use Rattle.std.specs.Prelude.{◌≡◌, ℕ, zero, suc, ◌+◌, ◌≤◌, List, [], ◌∷◌, length, All, Option, Some, None}
use Rattle.syntax_types.specs.declared.picture.Picture.{Picture}
use Rattle.syntax_types.specs.declared.picture.SeqState.{SeqState}
use Rattle.pes_units.specs.VideoHeader.{AreInRange, IsBesidePts}
use Rattle.picture_reader.specs.Picture.{IsPictureOf}
use Rattle.program_reader.specs.declared.program.AudioPiece.{AudioPiece}
use Rattle.program_reader.specs.declared.program.Program.{Program}
use Rattle.program_reader.specs.declared.program.UnitSource.{UnitSource}
use Rattle.program_reader.specs.Units.{unit_bytes, unit_size}
use Rattle.program_reader.specs.Sizes.{stands_at}
use Rattle.version_maker.specs.declared.limits.TheConstants.{UNIT_BYTES_MOST}
use Rattle.mux_writer.specs.Pieces.{HasPayloadSize}

-- ---- the video

-- the bytes of a unit of a video
abbrev pub bytes_of_unit : List ℕ → UnitSource → List ℕ
bytes_of_unit es unit = unit_bytes es (stands_at unit)

-- behind the state, or behind none, the unit spells a picture whose slices hold all its macroblocks, and leaves this state in
-- force (ISO/IEC 13818-2, 6.1.2 and 6.2.2)
pub record LeavesState (before : Option SeqState) (unit : List ℕ) (after : SeqState) : Type 0 where
  pub picture : Picture
  pub whole : IsPictureOf before unit picture
  pub after_is : picture.seq ≡ after

-- units of a video spell pictures in order, each behind the state that the one before leaves
abbrev pub SpellInOrder : (es : List ℕ) → Option SeqState → List UnitSource → Type 0
SpellInOrder es before [] = Unit {0}
SpellInOrder es before (unit ∷ units) = (after : SeqState) × LeavesState before (bytes_of_unit es unit) after × SpellInOrder es (Some after) units

-- behind a state, so many units of a video leave another one
abbrev pub LeaveBehind : List ℕ → Option SeqState → List UnitSource → (count : ℕ) → Option SeqState → Type 0
LeaveBehind es before units zero after = before ≡ after
LeaveBehind es before [] (suc count) after = ⊥
LeaveBehind es before (unit ∷ units) (suc count) after =
    (next : SeqState) × LeavesState before (bytes_of_unit es unit) next × LeaveBehind es (Some next) units count after

-- a unit stands in the video, is no longer than a unit may be, and a PES header can say its times (13818-1, 2.4.3.7)
pub record IsUnitOf (es : List ℕ) (unit : UnitSource) : Type 0 where
  pub order : unit.begin ≤ unit.end
  pub inside : unit.end ≤ length es
  pub short : unit_size (stands_at unit) ≤ UNIT_BYTES_MOST
  pub in_range : AreInRange unit.times
  pub beside : IsBesidePts unit.times

-- ---- the audio

-- a piece stands among the bytes of its audio stream, and fits a packet
pub record IsPieceOf (bytes : List ℕ) (piece : AudioPiece) : Type 0 where
  pub size : HasPayloadSize piece.packet.bytes
  pub inside : piece.at + piece.packet.bytes ≤ length bytes

-- ---- a program

-- its units spell pictures in order, from its first one on, and they and the pieces of its audio streams stand among the bytes
-- that are kept
pub record IsSendable (program : Program) : Type 0 where
  pub units : All (IsUnitOf program.video) program.units
  pub pictures : SpellInOrder program.video None program.units
  pub audio : All (λ audio. All (IsPieceOf audio.bytes) audio.pieces) program.audios
