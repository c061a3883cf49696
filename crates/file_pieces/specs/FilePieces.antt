-- The pieces of streams of files that are read again: which there are, what they are where files are told, and what is kept.
use Rattle.std.specs.Prelude.{◌≡◌, ◌⊎◌, ℕ, ◌-◌, ◌<◌, ◌≤◌, max, List, [], ◌∷◌, length, map, take, drop, slice_get, Contains, Option, Some, None, IfSome, IsSomeAnd}
use Rattle.std.specs.Option.{option_map, option_map_or}
use Rattle.shelf_io.specs.Counts.{ShelfCounts}
use Rattle.shelf_io.specs.Files.{Files, content_of}
use Rattle.bit_lists.specs.Payload.{Payload}
use Rattle.pes_units.specs.PesPieces.{packets_for}
use Rattle.mux_writer.specs.declared.piece_source.Filled.{Filled}
use Rattle.mux_writer.specs.Pieces.{IsFilledWith, Pieces}
use Rattle.version_maker.specs.declared.version.UnitVersion.{UnitVersion}
use Rattle.version_source.specs.Pieces.{audio_payload, pieces_of, video_items}
use Rattle.file_pass.specs.FilePass.{StopsAs}
use Rattle.file_pieces.specs.declared.kept_pieces.PiecesStop.{PiecesStop}
use Rattle.file_pieces.specs.declared.lane.Lane.{Lane}
use Rattle.file_pieces.specs.declared.lane.Lane.TheVariants.{Audio, Video}
use Rattle.file_pieces.specs.declared.lane_state.LaneState.{LaneState}
use Rattle.file_pieces.specs.declared.limits.TheConstants.{READ_MOST}
use Rattle.file_pieces.specs.declared.stream_place.StreamPlace.{StreamPlace}
use Rattle.file_pieces.specs.FileStream.{bytes_of}
use Rattle.file_pieces.specs.Lane.{IsAudioHeld, IsAudioLane, IsVideoHeld, IsVideoLane, planned_size}
use Rattle.file_pieces.specs.LaneState.{AreVersionsIn, IsAudioKept, IsVideoKept}

-- ---- which there are

-- the stream has this piece: of a unit one of those that its planned size makes, of an audio packet the first
abbrev pub LaneHas : Lane → (item piece : ℕ) → Type 0
LaneHas (Video lane) item piece = (item < length lane.units.now) × (piece < packets_for (planned_size lane item))
LaneHas (Audio lane) item piece = (item < length lane.pieces.now) × (piece ≡ 0)

-- one of the streams has it
abbrev pub LanesHave : List Lane → (stream item piece : ℕ) → Type 0
LanesHave lanes stream item piece = IsSomeAnd (slice_get lanes stream) (λ lane. LaneHas lane item piece)

-- ---- what they are, where files are told

-- the file of a stream, as far as it is read
abbrev pub file_in : Files → StreamPlace → List ℕ
file_in files place = take (READ_MOST - 0) (drop 0 (content_of files place.name.now))

-- these are the versions of the units of a stream; an audio stream has none
abbrev pub AreLaneVersions : Files → Lane → List (List UnitVersion) → Type 0
AreLaneVersions files (Video lane) versions = AreVersionsIn lane (file_in files lane.stream) versions
AreLaneVersions files (Audio lane) versions = versions ≡ []

-- the same of all streams
abbrev pub AreLanesVersions : Files → List Lane → List (List (List UnitVersion)) → Type 0
AreLanesVersions files [] [] = Unit {0}
AreLanesVersions files (lane ∷ lanes) (versions ∷ more) = AreLaneVersions files lane versions × AreLanesVersions files lanes more
AreLanesVersions files lanes versions = ⊥

-- the items of a stream
abbrev pub lane_items : Files → Lane → List (List UnitVersion) → List (List Payload)
lane_items files (Video lane) versions = video_items lane.units.now versions lane.choice.now
lane_items files (Audio lane) versions = map (λ piece. audio_payload (bytes_of lane.stream (file_in files lane.stream)) piece ∷ []) lane.pieces.now

-- the items of all streams
abbrev pub lanes_items : Files → List Lane → List (List (List UnitVersion)) → List (List (List Payload))
lanes_items files (lane ∷ lanes) (versions ∷ more) = lane_items files lane versions ∷ lanes_items files lanes more
lanes_items files lanes versions = []

-- where files are told, the units have versions
abbrev pub HaveLanesVersions : Option Files → List Lane → Type 0
HaveLanesVersions None lanes = Unit {0}
HaveLanesVersions (Some files) lanes = (versions : List (List (List UnitVersion))) × ∥ AreLanesVersions files lanes versions ∥₁

-- the pieces of all streams, where files are told
abbrev pub lanes_told : (told : Option Files) → (lanes : List Lane) → HaveLanesVersions told lanes → Option Pieces
lanes_told None lanes made = None
lanes_told (Some files) lanes made = Some (pieces_of (lanes_items files lanes made.0))

-- ---- what is kept of them

-- a stream can be sent: where files are told, its file holds what is sent
abbrev pub IsHeld : Option Files → Lane → Type 0
IsHeld told (Video lane) = IsVideoLane lane × IsVideoHeld told lane
IsHeld told (Audio lane) = IsAudioLane lane × IsAudioHeld told lane

-- each of the streams
abbrev pub AreHeld : Option Files → List Lane → Type 0
AreHeld told [] = Unit {0}
AreHeld told (lane ∷ lanes) = IsHeld told lane × AreHeld told lanes

-- a stream can be sent as its state says: where files are told, its file holds what is sent
abbrev pub IsServed : Option Files → Lane → LaneState → Type 0
IsServed told (Video lane) state = IsVideoLane lane × IsVideoHeld told lane × IsVideoKept told lane state
IsServed told (Audio lane) state = IsAudioLane lane × IsAudioHeld told lane × IsAudioKept told lane state

-- each stream can be sent
abbrev pub AreServed : Option Files → List Lane → List LaneState → Type 0
AreServed told [] [] = Unit {0}
AreServed told (lane ∷ lanes) (state ∷ states) = IsServed told lane state × AreServed told lanes states
AreServed told lanes states = ⊥

-- ---- a call for a piece

-- the stream that a lane sends
abbrev pub stream_of_lane : Lane → StreamPlace
stream_of_lane (Video lane) = lane.stream
stream_of_lane (Audio lane) = lane.stream

-- the name of its file
abbrev pub lane_name : Lane → List ℕ
lane_name lane = (stream_of_lane lane).name.now

-- the name of the file of the stream of a number; where there is none, no name
abbrev pub name_at : List Lane → (stream : ℕ) → List ℕ
name_at lanes stream = option_map_or lane_name (slice_get lanes stream) []

-- where files are told, this piece was put into a buffer, by the pieces of all streams
abbrev pub IsSentIn : Option Files → List Lane → (stream item piece : ℕ) → (buffer : List ℕ) → Filled → Type 0
IsSentIn told lanes stream item piece buffer filled = IfSome told (λ files. (versions : List (List (List UnitVersion))) → AreLanesVersions files lanes versions →
    IsFilledWith (pieces_of (lanes_items files lanes versions) stream item piece) filled buffer)

-- What is said of a shelf behind calls for pieces that began with it: its files and its count of failed writes are as they were, no byte of a file was asked for but of those of
-- the streams, none of theirs behind the limit, and what stopped the pieces says how the reads ended.
pub record HasServed (lanes : List Lane) (stop : Option PiecesStop) (told told_after : Option Files) (old new : ShelfCounts) (since_fault : ℕ) (asked asked_after : List ℕ → ℕ) : Type 0 where
  pub same_files : told_after ≡ told
  pub same_write_faults : new.write_faults ≡ old.write_faults
  pub asks : (name : List ℕ) → (asked_after name ≤ asked name) ⊎ (Contains (map lane_name lanes) name × (asked_after name ≤ max (asked name) READ_MOST))
  pub stops : StopsAs (option_map (λ s. s.fault) stop) told (option_map_or (λ s. name_at lanes s.stream) stop []) old new since_fault
