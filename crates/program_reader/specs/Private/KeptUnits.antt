-- Units that are kept so far, and how far from 0 their times may be.
use Rattle.std.specs.Prelude.{◌≡◌, ℕ, ◌+◌, ◌*◌, ◌^◌, ◌≤◌, List, [], ◌∷◌, length, All, IfSome, pos, neg_ℤ, ◌≤ℤ◌}
use Rattle.ts_demux.specs.declared.demuxed.PesUnit.{PesUnit}
use Rattle.picture_grammar.specs.Picture.{IsState}
use Rattle.program_reader.specs.declared.limits.TheConstants.{FILE_BYTES_MOST, PES_PACKETS_MOST}
use Rattle.program_reader.specs.declared.kept_units.KeptUnits.{KeptUnits}
use Rattle.elementary_streams.specs.declared.pes_packets.PlacedPacket.{PlacedPacket}
use Rattle.elementary_streams.specs.declared.pes_packets.TakenPackets.{TakenPackets}
use Rattle.program_reader.specs.declared.timed_picture.TimedPicture.{TimedPicture}
use Rattle.program_reader.specs.KeptUnits.{AreRows, first_of}
use Rattle.program_reader.specs.Units.{AreKept, AreInOrder, last_of}
use Rattle.elementary_streams.specs.NearTimes.{IsNear, IsTime}
use Rattle.elementary_streams.specs.Taken.{Holds}
use Rattle.program_reader.specs.Private.TimedPictures.{IsShown}

-- what is taken of a stream of a file within its limit
pub record IsVideo (held : TakenPackets) : Type 0 where
  pub packets : List PesUnit
  pub holds : Holds packets held
  pub few : length held.packets.items ≤ PES_PACKETS_MOST
  pub small : length held.payload.items ≤ FILE_BYTES_MOST

-- units stand one behind the other, from a place on and within so many bytes
abbrev pub Fits : ℕ → ℕ → List (ℕ × ℕ) → Type 0
Fits size from [] = Unit {0}
Fits size from (unit ∷ units) = (from ≤ unit.0) × (unit.0 ≤ unit.1) × (unit.1 ≤ size) × Fits size unit.1 units

-- how far from 0 a time in ticks may be, behind so many stated times and so many units
abbrev pub far : ℕ → ℕ → ℕ
far count units = 300 * (2 ^ 33 + count * 2 ^ 32) + 3378375 * units

-- a picture with a state that may be in force, whose times are that near behind so many stated times and so many units
pub record IsPictureNear (count units : ℕ) (picture : TimedPicture) : Type 0 where
  pub state : IsState picture.seq
  pub stated : IsNear count picture.stated
  pub least : neg_ℤ (pos (far count units)) ≤ℤ picture.ticks
  pub most : picture.ticks ≤ℤ pos (far count units)
  pub shown_before : IfSome picture.reference_before IsShown
  pub shown_behind : IfSome picture.reference_behind IsShown

-- units are kept as these pictures
pub record Keep (es : List ℕ) (packets : List PlacedPacket) (units : List (ℕ × ℕ)) (pictures : List TimedPicture) (kept : KeptUnits) : Type 0 where
  pub in_order : AreInOrder es packets [] units pictures
  pub rows : AreRows units pictures kept.units.items
  pub first_is : kept.first ≡ first_of pictures
  pub first_near : IfSome kept.first (λ picture. IsNear 0 picture.stated)
  pub last_is : kept.last ≡ last_of pictures
  pub ticks : All (λ unit. IsTime unit.ticks) kept.units.items

-- the units of a video that are kept, with their pictures
pub record AreUnitsKept (es : List ℕ) (packets : List PlacedPacket) (cuts : List (ℕ × ℕ)) (kept : KeptUnits) : Type 0 where
  pub units : List (ℕ × ℕ)
  pub pictures : List TimedPicture
  pub kept_are : AreKept es packets cuts units pictures kept.dropped
  pub keep : Keep es packets units pictures kept
