-- The units of a program while its row is made.
use Rattle.std.specs.Prelude.{◌≡◌, ℕ, ◌+◌, ◌*◌, ◌≤◌, List, [], ◌∷◌, ◌++◌, length, map, All, Option}
use Rattle.job_report.specs.declared.job.ProgramJob.{ProgramJob}
use Rattle.syntax_types.specs.declared.picture.SeqState.{SeqState}
use Rattle.version_table.specs.declared.table.Unit.{Unit as CodedUnit}
use Rattle.version_table.specs.declared.table.Version.{Version}
use Rattle.version_table.specs.declared.table.ProgramRow.{ProgramRow}
use Rattle.program_reader.specs.declared.program.Program.{Program}
use Rattle.pes_units.specs.VideoHeader.{AreInRange, IsBesidePts, written_pes_header}
use Rattle.program_reader.specs.declared.program.UnitSource.{UnitSource}
use Rattle.program_reader.specs.Carry.{unit_weight}
use Rattle.program_reader.specs.declared.unit_sizes.UnitSizes.{UnitSizes}
use Rattle.version_laws.specs.declared.limits.TheConstants.{UNIT_VERSION_BYTES_MOST, UNIT_VERSION_DISTORTION_MOST}
use Rattle.version_maker.specs.declared.version.UnitVersion.{UnitVersion}
use Rattle.version_maker.specs.declared.version.VersionSize.{VersionSize}
use Rattle.version_source.specs.Versions.{AreAllVersions, AreVideoVersions, ratios_of}
use Rattle.program_table.specs.Table.{program_rows, unit_rows}

-- units with all their versions, from a state on
pub record AreUnitRows (es coarser : List ℕ) (before : Option SeqState) (weight drift : ℕ) (units : List UnitSource) (rows : List CodedUnit) : Type 0 where
  pub versions : List (List UnitVersion)
  pub are_versions : AreVideoVersions es coarser before units versions
  pub rows_are : rows ≡ unit_rows weight drift units versions

-- a size that a table has a place for
abbrev pub IsBounded : VersionSize → Type 0
IsBounded size = (1 ≤ size.bytes) × (size.bytes ≤ UNIT_VERSION_BYTES_MOST) × (size.distortion ≤ UNIT_VERSION_DISTORTION_MOST)

-- a version of this size behind a header of so many bytes
abbrev pub with_header : (header weight : ℕ) → VersionSize → Version
with_header header weight size = record { bytes = header + size.bytes; distortion = size.distortion * weight }

-- so are all sizes of a unit
abbrev pub AreBounded : UnitSizes → Type 0
AreBounded sizes = All IsBounded sizes.versions.items

-- a PES header can say the times of a unit
pub record CanBeSaid (unit : UnitSource) : Type 0 where
  pub in_range : AreInRange unit.times
  pub beside : IsBesidePts unit.times

-- a unit with versions of these sizes
abbrev pub sized_row : (weight : ℕ) → UnitSource → UnitSizes → CodedUnit
sized_row weight unit sizes =
    record { due = unit.due; versions = record { items = map (with_header (length (written_pes_header unit.times)) weight) sizes.versions.items } }

-- units with theirs, in order
abbrev pub sized_rows : (weight drift : ℕ) → List UnitSource → List UnitSizes → List CodedUnit
sized_rows weight drift (unit ∷ units) (sizes ∷ more) = sized_row (unit_weight weight drift unit units) unit sizes ∷ sized_rows weight drift units more
sized_rows weight drift units sizes = []

-- The rows of the programs before those that are left: with the versions of these, and their rows, they make all.
pub record AreProgramRowsSoFar (jobs jobs_left : List ProgramJob) (programs left : List Program) (rows : List ProgramRow) : Type 0 where
  pub all : (more : List (List (List UnitVersion))) → AreAllVersions left (ratios_of jobs_left) more
      → (versions : List (List (List UnitVersion))) × AreAllVersions programs (ratios_of jobs) versions × (program_rows jobs programs versions ≡ rows ++ program_rows jobs_left left more)
