-- What is kept of a stream that is sent, and what is sent of it.
use Rattle.std.specs.Prelude.{◌≡◌, ℕ, ◌+◌, ◌≤◌, false, List, [], length, slice_index_or, Option, None, Some, IfSome}
use Rattle.shelf_io.specs.Files.{Files}
use Rattle.bit_lists.specs.Payload.{Payload}
use Rattle.pes_units.specs.PesPieces.{pes_pieces}
use Rattle.picture_grammar.specs.Picture.{MayPrecede}
use Rattle.mux_writer.specs.declared.piece_source.Filled.{Filled}
use Rattle.mux_writer.specs.Pieces.{IsFilledWith}
use Rattle.version_maker.specs.declared.version.UnitVersion.{UnitVersion}
use Rattle.version_source.specs.Pieces.{audio_payload, video_items}
use Rattle.version_source.specs.Versions.{AreVideoVersions}
use Rattle.version_source.specs.Private.Sending.{LeaveBehind}
use Rattle.file_pieces.specs.declared.lane.AudioLane.{AudioLane}
use Rattle.file_pieces.specs.declared.lane.VideoLane.{VideoLane}
use Rattle.file_pieces.specs.declared.lane_state.LaneState.{LaneState}
use Rattle.file_pieces.specs.FileStream.{Follows, bytes_of, file_of}
use Rattle.file_pieces.specs.Lane.{piece_at, planned_size}

-- ---- what is sent

-- the pieces of the unit of a number, whichever the versions of the video of a file are
abbrev pub items_in : VideoLane → (file : List ℕ) → List (List UnitVersion) → (number : ℕ) → List Payload
items_in lane file versions number = slice_index_or (video_items lane.units.now versions lane.choice.now) number []

-- these are the versions of a video
abbrev pub AreVersionsIn : VideoLane → (file : List ℕ) → List (List UnitVersion) → Type 0
AreVersionsIn lane file versions = AreVideoVersions (bytes_of lane.stream file) lane.coarser.now None lane.units.now versions

-- where files are told, this piece of a unit was put into a buffer
abbrev pub IsVideoSent : Option Files → VideoLane → (number piece : ℕ) → (buffer : List ℕ) → Filled → Type 0
IsVideoSent told lane number piece buffer filled = IfSome (file_of told lane.stream) (λ file. (versions : List (List UnitVersion)) → AreVersionsIn lane file versions →
    IsFilledWith (slice_index_or (items_in lane file versions number) piece (record { start = false; bytes = [] })) filled buffer)

-- where files are told, this piece of an audio stream was put into a buffer
abbrev pub IsAudioSent : Option Files → AudioLane → (number : ℕ) → (buffer : List ℕ) → Filled → Type 0
IsAudioSent told lane number buffer filled = IfSome (file_of told lane.stream) (λ file. IsFilledWith (audio_payload (bytes_of lane.stream file) (piece_at lane number)) filled buffer)

-- ---- what is kept

-- This is the PES packet of the unit of a number, of the size that is planned: where files are told it has the unit's pieces, whichever the versions of the video are.
pub record IsUnitPacket (told : Option Files) (lane : VideoLane) (number : ℕ) (packet : List ℕ) : Type 0 where
  pub size_is : length packet ≡ planned_size lane number
  pub pieces_are : IfSome (file_of told lane.stream) (λ file. (versions : List (List UnitVersion)) → AreVersionsIn lane file versions → items_in lane file versions number ≡ pes_pieces packet)

-- Of a video: how far it is read, the state before a unit, and the PES packet of the unit before that one, once it was asked for.
pub record IsVideoKept (told : Option Files) (lane : VideoLane) (kept : LaneState) : Type 0 where
  pub follows : Follows told lane.stream kept.file
  pub within : kept.next ≤ length lane.units.now
  pub precedes : MayPrecede kept.state
  pub state_is : IfSome (file_of told lane.stream) (λ file. LeaveBehind (bytes_of lane.stream file) None lane.units.now kept.next kept.state)
  pub packet_is : (packet : List ℕ) (number : ℕ) → kept.packet ≡ Some packet → kept.next ≡ number + 1 → IsUnitPacket told lane number packet

-- of an audio stream: how far it is read
abbrev pub IsAudioKept : Option Files → AudioLane → LaneState → Type 0
IsAudioKept told lane kept = Follows told lane.stream kept.file
