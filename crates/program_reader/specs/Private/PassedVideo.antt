-- One unit of a video that has passed, and the video of all.
use Rattle.std.specs.Prelude.{◌≡◌, ◌⊎◌, ℕ, ◌+◌, ◌-◌, ◌^◌, ◌≤◌, min, Bool, List, [], ◌∷◌, ◌++◌, length, Option, Some, None, Result, MatchResult, unwrap_or}
use Rattle.pes_units.specs.declared.pes_fault.PesFault.{PesFault}
use Rattle.pes_units.specs.declared.times.Times.{Times}
use Rattle.es_units.specs.declared.unit_cutter.CutUnit.{CutUnit}
use Rattle.es_units.specs.UnitCutter.{place_of}
use Rattle.ts_demux.specs.declared.demuxed.PesUnit.{PesUnit}
use Rattle.program_reader.specs.declared.kept_units.KeptUnits.{KeptUnits}
use Rattle.program_reader.specs.declared.passed_units.PassedUnits.{PassedUnits}
use Rattle.elementary_streams.specs.declared.pes_packets.PlacedPacket.{PlacedPacket}
use Rattle.program_reader.specs.declared.program_fault.ProgramFault.{ProgramFault}
use Rattle.program_reader.specs.declared.program_fault.ProgramFault.TheVariants.{OutOfMemory}
use Rattle.program_reader.specs.declared.timed_picture.TimedPicture.{TimedPicture}
use Rattle.program_reader.specs.declared.unit_picture.TimedUnit.{TimedUnit}
use Rattle.program_reader.specs.declared.video_places.VideoPlaces.{VideoPlaces}
use Rattle.program_reader.specs.declared.video_walk.WalkedVideo.{WalkedVideo}
use Rattle.program_reader.specs.Faults.{of_pes}
use Rattle.program_reader.specs.Intervals.{nearest}
use Rattle.program_reader.specs.KeptUnits.{row_of}
use Rattle.elementary_streams.specs.Packets.{joined, placed_from}
use Rattle.program_reader.specs.PictureTimes.{times_of_unit}
use Rattle.program_reader.specs.Units.{unit_bytes}
use Rattle.program_reader.specs.VideoWalk.{Stand}
use Rattle.program_reader.specs.Private.TimedPictures.{IsFound, IsNotFound, LastTells}

-- what a fault says of a packet at a place of the file with this fault, or none
abbrev pub IsFaultOf : ℕ → Option PesFault → ProgramFault → Type 0
IsFaultOf at found fault = (fault ≡ OutOfMemory) ⊎ ((said : PesFault) × (found ≡ Some said) × (fault ≡ of_pes at said))

-- a unit is kept behind others as this picture; a last one that is none is dropped
abbrev pub IsKeptAs : KeptUnits → ℕ × ℕ → Option TimedPicture → KeptUnits → Type 0
IsKeptAs old unit (Some picture) new =
    (new.units.items ≡ old.units.items ++ row_of unit picture ∷ []) × (new.first ≡ Some (unwrap_or old.first picture)) × (new.last ≡ Some picture) × (new.dropped ≡ old.dropped)
IsKeptAs old unit None new = (new.units.items ≡ old.units.items) × (new.first ≡ old.first) × (new.last ≡ old.last) × (new.dropped ≡ 1)

-- a unit with these times
abbrev pub timed_as : CutUnit → Times → Bool → TimedUnit
timed_as unit times is_last = record { begin = unit.begin; end = unit.end; times = times; is_last = is_last }

-- Times are looked up for a unit, which are its own among the PES packets that have passed. In each video in which it has these bytes and these times
-- it is the answered picture, or refused for the answered fault.
pub record IsReadAs (places : VideoPlaces) (unit : CutUnit) (is_last : Bool) (before : Option TimedPicture) (result : Result (Option TimedPicture) ProgramFault) : Type 0 where
  pub times : Times
  pub times_are : (packets : List PesUnit) → Stand packets places → unit.end ≤ length (joined packets)
      → times ≡ times_of_unit (joined packets) (placed_from 0 packets) (place_of unit)
  pub found : (es : List ℕ) (packets : List PlacedPacket) (earlier : List TimedPicture) → unit.bytes.now ≡ unit_bytes es (place_of unit) → nearest earlier ≡ before
      → LastTells earlier → times ≡ times_of_unit es packets (place_of unit)
      → MatchResult result (IsFound es packets earlier before (timed_as unit times is_last)) (IsNotFound es packets before (timed_as unit times is_last))

-- a video is that of units which are read, beside which so many units and PES packets are dropped
pub record IsVideoOf (units : PassedUnits) (units_dropped pes_dropped : ℕ) (video : WalkedVideo) : Type 0 where
  pub first_is : units.kept.first ≡ Some video.first
  pub rows_are : video.units.items ≡ units.kept.units.items
  pub sizes_are : video.sizes.items ≡ units.sizes.items
  pub dropped_is : video.units_dropped ≡ min (units_dropped + units.kept.dropped) (2 ^ 32 - 1)
  pub pes_dropped_is : video.pes_dropped ≡ pes_dropped
