-- The table of the programs of a job: what the planner is given of them.
use Rattle.std.specs.Prelude.{◌≡◌, ℕ, ◌+◌, ◌*◌, List, [], ◌∷◌, length, map, None}
use Rattle.job_report.specs.declared.job.Job.{Job}
use Rattle.job_report.specs.declared.job.ProgramJob.{ProgramJob}
use Rattle.version_table.specs.declared.table.Version.{Version}
use Rattle.version_table.specs.declared.table.Unit.{Unit as CodedUnit}
use Rattle.version_table.specs.declared.table.AudioPacket.{AudioPacket}
use Rattle.version_table.specs.declared.table.ProgramRow.{ProgramRow}
use Rattle.version_table.specs.declared.table.Table.{Table}
use Rattle.pes_units.specs.VideoHeader.{written_pes_header}
use Rattle.program_reader.specs.declared.program.AudioSource.{AudioSource}
use Rattle.program_reader.specs.declared.program.Program.{Program}
use Rattle.program_reader.specs.declared.program.UnitSource.{UnitSource}
use Rattle.program_reader.specs.Carry.{unit_weight}
use Rattle.version_maker.specs.declared.version.UnitVersion.{UnitVersion}
use Rattle.version_source.specs.Versions.{AreAllVersions, AreVideoVersions, ratios_of}

-- a version of a unit: the bytes of its PES packet, header included, and its distortion as much as the unit weighs
abbrev pub row_version : (weight : ℕ) → UnitSource → UnitVersion → Version
row_version weight unit version =
    record { bytes = length (written_pes_header unit.times) + length version.bytes; distortion = version.distortion * weight }

-- a unit: when it is decoded, and its versions
abbrev pub unit_row : (weight : ℕ) → UnitSource → List UnitVersion → CodedUnit
unit_row weight unit versions = record { due = unit.due; versions = record { items = map (row_version weight unit) versions } }

-- the units of a video of this weight and drift, in order: each weighs what the pictures behind it make of it
abbrev pub unit_rows : (weight drift : ℕ) → List UnitSource → List (List UnitVersion) → List CodedUnit
unit_rows weight drift (unit ∷ units) (versions ∷ more) =
    unit_row (unit_weight weight drift unit units) unit versions ∷ unit_rows weight drift units more
unit_rows weight drift units versions = []

-- the packets of an audio stream: one for each of its pieces
abbrev pub audio_row : AudioSource → List AudioPacket
audio_row audio = map (λ piece. piece.packet) audio.pieces

-- a program: the size of its video's elementary buffer, its units and its audio streams
abbrev pub program_row : (weight drift : ℕ) → Program → List (List UnitVersion) → ProgramRow
program_row weight drift program versions =
    record { vbv = program.vbv; units = unit_rows weight drift program.units versions; audios = map audio_row program.audios }

-- The row of a program with all versions of its units at some ratios.
pub record IsRowOf (program : Program) (coarser : List ℕ) (weight drift : ℕ) (row : ProgramRow) : Type 0 where
  pub versions : List (List UnitVersion)
  pub are_versions : AreVideoVersions program.video coarser None program.units versions
  pub row_is : row ≡ program_row weight drift program versions

-- the programs of a job, each with the weight and the drift that the job gives it
abbrev pub program_rows : List ProgramJob → List Program → List (List (List UnitVersion)) → List ProgramRow
program_rows (job ∷ jobs) (program ∷ programs) (versions ∷ more) = program_row job.weight job.drift program versions ∷ program_rows jobs programs more
program_rows jobs programs versions = []

-- The table of the programs of a job: its slot and limits of the search, and each program with all versions of its units.
pub record IsTableOf (job : Job) (programs : List Program) (table : Table) : Type 0 where
  pub versions : List (List (List UnitVersion))
  pub are_versions : AreAllVersions programs (ratios_of job.programs) versions
  pub slot : table.slot ≡ job.slot
  pub nodes : table.nodes ≡ job.nodes
  pub evaluations : table.evaluations ≡ job.evaluations
  pub rows : table.programs ≡ program_rows job.programs programs versions
