-- What a walk over the PES packets of a video has read of it, and what it answers at its end.
use Rattle.std.specs.Prelude.{◌≡◌, ℕ, ◌<◌, ◌≤◌, true, List, [], ◌∷◌, ◌++◌, length, take, map, All, Option, Some, None}
use Rattle.es_units.specs.declared.unit_cutter.UnitCutter.{UnitCutter}
use Rattle.es_units.specs.declared.units.Units.{Units}
use Rattle.es_units.specs.PictureFinder.{HasFound}
use Rattle.es_units.specs.UnitCutter.{HasCut, most_kept}
use Rattle.es_units.specs.Units.{cut_units}
use Rattle.pes_units.specs.PesPackets.{packet_refusal}
use Rattle.ts_demux.specs.declared.demuxed.Demuxed.{Demuxed}
use Rattle.ts_demux.specs.declared.demuxed.PesUnit.{PesUnit}
use Rattle.version_table.specs.declared.limits.TheConstants.{VERSIONS_MOST}
use Rattle.program_reader.specs.declared.limits.TheConstants.{FILE_BYTES_MOST, PES_PACKETS_MOST}
use Rattle.program_reader.specs.declared.passed_units.PassedUnits.{PassedUnits}
use Rattle.elementary_streams.specs.declared.pes_packets.PlacedPacket.{PlacedPacket}
use Rattle.elementary_streams.specs.declared.stream_fault.StreamFault.{StreamFault}
use Rattle.program_reader.specs.declared.program_fault.ProgramFault.{ProgramFault}
use Rattle.program_reader.specs.declared.timed_picture.TimedPicture.{TimedPicture}
use Rattle.program_reader.specs.declared.unit_sizes.SizesWanted.{SizesWanted}
use Rattle.program_reader.specs.declared.video_places.VideoPlaces.{VideoPlaces}
use Rattle.program_reader.specs.declared.video_walk.VideoWalk.{VideoWalk}
use Rattle.program_reader.specs.declared.video_walk.WalkedVideo.{WalkedVideo}
use Rattle.program_reader.specs.Faults.{of_stream}
use Rattle.program_reader.specs.KeptUnits.{AreRows, first_of, kept_at}
use Rattle.elementary_streams.specs.Packets.{IsPacketFault, joined, packets_dropped, placed_from}
use Rattle.program_reader.specs.Programs.{HasPictures}
use Rattle.program_reader.specs.Sizes.{AreSizedSoFar}
use Rattle.program_reader.specs.TimesWalk.{HasPassed}
use Rattle.program_reader.specs.Units.{AreInOrder, IsUnitsFault, last_of, state_behind}

-- the sizes that are wanted of the units that it reads
abbrev pub wanted_of : VideoWalk → SizesWanted
wanted_of walk = walk.units.wanted

-- a video has no more PES packets than a program may have of one, and no more bytes than a file
pub record AreFew (packets : List PesUnit) : Type 0 where
  pub packets_few : length packets ≤ PES_PACKETS_MOST
  pub bytes_few : length (joined packets) ≤ FILE_BYTES_MOST

-- ---- what is read, whatever PES packets follow

-- the PES packets of a video and its pictures stand at these places
pub record Stand (packets : List PesUnit) (places : VideoPlaces) : Type 0 where
  pub placed : places.packets.items ≡ placed_from 0 packets
  pub bytes : places.bytes ≡ length (joined packets)
  pub found : HasFound (joined packets) places.pictures.items places.finder

-- where the last one of some units ends, which begin at a place
abbrev pub end_of : ℕ → List (ℕ × ℕ) → ℕ
end_of from [] = from
end_of from (unit ∷ units) = end_of unit.1 units

-- Units that have ended are kept: whatever packets follow, they are these pictures, each behind those before it, and have these sizes, where sizes are wanted.
-- Their times were looked up.
pub record HavePassed (packets : List PesUnit) (places : VideoPlaces) (given : List (ℕ × ℕ)) (units : PassedUnits) : Type 0 where
  pub pictures : List TimedPicture
  pub in_order : (more : List PesUnit) → AreInOrder (joined (packets ++ more)) (placed_from 0 (packets ++ more)) [] given pictures
  pub rows : AreRows given pictures units.kept.units.items
  pub first_is : units.kept.first ≡ first_of pictures
  pub last_is : units.kept.last ≡ last_of pictures
  pub none_dropped : units.kept.dropped ≡ 0
  pub sized : units.wanted.are_wanted ≡ true → (more : List PesUnit)
      → AreSizedSoFar (joined (packets ++ more)) units.wanted.coarser.now (state_behind units.kept.last) (map kept_at units.kept.units.items) units.sizes.items
  pub coarser : length units.wanted.coarser.now < VERSIONS_MOST
  pub passed : HasPassed places.pictures.items places.packets.items (end_of 0 given) units.times

-- All PES packets of a video have passed, and of its bytes so many are cut into units, which are kept.
pub record ReadsTo (packets : List PesUnit) (at : ℕ) (places : VideoPlaces) (cutter : UnitCutter) (units : PassedUnits) : Type 0 where
  pub stand : Stand packets places
  pub within : at ≤ length (joined packets)
  pub given : List (ℕ × ℕ)
  pub cut : HasCut (take at (joined packets)) given cutter
  pub most : most_kept cutter ≡ FILE_BYTES_MOST
  pub read : HavePassed packets places given units

-- a video is cut into units, one of which is refused, first for this
pub record HasUnitFault (es : List ℕ) (packets : List PlacedPacket) (fault : ProgramFault) : Type 0 where
  pub units : Units
  pub units_are : cut_units es ≡ Some units
  pub fault_is : IsUnitsFault es packets units.cuts fault

-- whatever packets follow, the first unit of the video that is refused is refused for this
abbrev pub AreRefused : List PesUnit → ProgramFault → Type 0
AreRefused packets fault = (more : List PesUnit) → HasUnitFault (joined (packets ++ more)) (placed_from 0 (packets ++ more)) fault

-- units are read, or one is refused
abbrev pub Reads : List PesUnit → (at : ℕ) → (refused : Option ProgramFault) → VideoWalk → Type 0
Reads packets at None walk = ReadsTo packets at walk.places walk.cutter walk.units
Reads packets at (Some fault) walk = AreRefused packets fault

-- A walk has read these PES packets, none of which has a fault where another one follows it.
pub record HasRead (packets : List PesUnit) (walk : VideoWalk) : Type 0 where
  pub sound : All (λ packet. packet_refusal true packet.bytes ≡ None) packets
  pub reads : Reads packets (length (joined packets)) walk.refused walk

-- whatever packets follow this one, it is the first of the video that has a fault, and has this one
abbrev pub IsFaultBefore : List PesUnit → PesUnit → ProgramFault → Type 0
IsFaultBefore packets packet fault = (next : PesUnit) (more : List PesUnit) →
    (found : StreamFault) × IsPacketFault true (packets ++ packet ∷ next ∷ more) found × (fault ≡ of_stream found)

-- ---- at its end

-- these PES packets and the last one are all of a video; there is no last one where there are none
abbrev pub AreAll : List PesUnit → Option PesUnit → List PesUnit → Type 0
AreAll packets None all = (packets ≡ []) × (all ≡ [])
AreAll packets (Some last) all = all ≡ packets ++ last ∷ []

-- The video of what is taken out of a file has these units with their times, kinds and roles.
pub record IsVideoWalked (demuxed : Demuxed) (video : WalkedVideo) : Type 0 where
  pub kept : List (ℕ × ℕ)
  pub pictures : List TimedPicture
  pub has_pictures : HasPictures demuxed kept video.first pictures video.units_dropped
  pub rows : AreRows kept pictures video.units.items
  pub pes_dropped_is : video.pes_dropped ≡ packets_dropped true demuxed.video
