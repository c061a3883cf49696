-- The streams of a program that are sent.
use Rattle.std.specs.Prelude.{◌≡◌, ℕ, ◌+◌, ◌<◌, List, [], ◌∷◌, ◌++◌, length, slice_index_or}
use Rattle.es_window.specs.declared.held_part.HeldPart.{HeldPart}
use Rattle.es_window.specs.declared.held_part.HeldPart.TheVariants.{Packet, Payload}
use Rattle.file_pieces.specs.declared.lane.Lane.{Lane}
use Rattle.file_pieces.specs.declared.lane.Lane.TheVariants.{Audio, Video}
use Rattle.file_pieces.specs.declared.program_lanes.SentProgram.{SentProgram}
use Rattle.file_pieces.specs.declared.stream_place.StreamPlace.{StreamPlace}

-- this is the stream of a number of a program's file, and this part of its PES packets is wanted
pub record IsPlaceIn (program : SentProgram) (index : ℕ) (part : HeldPart) (place : StreamPlace) : Type 0 where
  pub name_is : place.name.now ≡ program.name.now
  pub streams_are : place.streams.now ≡ program.streams.now
  pub index_is : place.index ≡ index
  pub part_is : place.part ≡ part

-- what is sent of the stream of a number: 0 is the video, and behind it stand the audio streams
abbrev pub IsLaneOf : SentProgram → (index : ℕ) → Lane → Type 0
IsLaneOf program index (Video lane) =
    (index ≡ 0) × IsPlaceIn program 0 Payload lane.stream × (lane.units.now ≡ program.units.now) × (lane.rows.now ≡ program.rows.now)
    × (lane.coarser.now ≡ program.coarser.now) × (lane.choice.now ≡ program.choice.now)
IsLaneOf program index (Audio lane) =
    (k : ℕ) × (index ≡ k + 1) × (k < length program.audios.now) × IsPlaceIn program (k + 1) Packet lane.stream × (lane.pieces.now ≡ slice_index_or program.audios.now k [])

-- the lanes of a program's streams from the one of a number on
abbrev pub AreLanesFrom : SentProgram → (index : ℕ) → List Lane → Type 0
AreLanesFrom program index [] = index ≡ length program.audios.now + 1
AreLanesFrom program index (lane ∷ lanes) = IsLaneOf program index lane × AreLanesFrom program (index + 1) lanes

-- the lanes of all streams of a program were put behind others
pub record AddsLanes (program : SentProgram) (old new : List Lane) : Type 0 where
  pub own : List Lane
  pub new_is : new ≡ old ++ own
  pub own_are : AreLanesFrom program 0 own
