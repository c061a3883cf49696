-- A unit whose bytes were read again.
use Rattle.std.specs.Prelude.{◌≡◌, ℕ, ◌++◌, List, length, Option}
use Rattle.syntax_types.specs.declared.picture.SeqState.{SeqState}
use Rattle.pes_units.specs.declared.times.Times.{Times}
use Rattle.pes_units.specs.VideoHeader.{written_pes_header}
use Rattle.version_maker.specs.declared.version.UnitVersion.{UnitVersion}
use Rattle.version_maker.specs.Versions.{AreVersions}
use Rattle.version_source.specs.Sendable.{LeavesState}
use Rattle.version_source.specs.Versions.{chosen_bytes}
use Rattle.file_pieces.specs.declared.unit_again.UnitPlan.{UnitPlan}

-- behind the state, or behind none, the bytes spell a picture
abbrev pub IsPicture : Option SeqState → (unit : List ℕ) → Type 0
IsPicture before unit = (after : SeqState) × LeavesState before unit after

-- a PES header with these times, and the version of this number behind it
abbrev pub packet_in : Times → List UnitVersion → (index : ℕ) → List ℕ
packet_in times versions index = written_pes_header times ++ chosen_bytes versions index

-- this is the PES packet of a unit in the version that is planned, whichever its versions are, and has the size that is planned
pub record IsPacketAgain (before : Option SeqState) (unit : List ℕ) (plan : UnitPlan) (packet : List ℕ) : Type 0 where
  pub packet_is : (versions : List UnitVersion) → AreVersions before unit plan.coarser.now versions → packet ≡ packet_in plan.times versions plan.index
  pub size_is : length packet ≡ plan.size

-- the PES packet of a unit in that version has that size
abbrev pub IsPlannedSize : Option SeqState → (unit : List ℕ) → UnitPlan → Type 0
IsPlannedSize before unit plan = (versions : List UnitVersion) → AreVersions before unit plan.coarser.now versions → length (packet_in plan.times versions plan.index) ≡ plan.size
