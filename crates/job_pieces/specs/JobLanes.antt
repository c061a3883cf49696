-- What is sent of a job: the streams of all its programs, out of their files.
use Rattle.std.specs.Prelude.{◌≡◌, ℕ, List, [], ◌∷◌, ◌++◌, length, map, take, drop, All, Option}
use Rattle.shelf_io.specs.Files.{Files}
use Rattle.ts_demux.specs.CarriedPackets.{AreDistinct}
use Rattle.job_report.specs.declared.job.Form.TheVariants.{Ts}
use Rattle.job_report.specs.declared.job.Job.{Job}
use Rattle.job_report.specs.declared.job.ProgramJob.{ProgramJob}
use Rattle.version_table.specs.declared.table.ProgramRow.{ProgramRow}
use Rattle.version_table.specs.declared.table.Table.{Table}
use Rattle.version_table.specs.Choice.{Fits}
use Rattle.program_reader.specs.declared.program.Program.{Program}
use Rattle.job_programs.specs.Told.{AreProgramsOn}
use Rattle.program_table.specs.Table.{IsTableOf}
use Rattle.file_pieces.specs.declared.lane.Lane.{Lane}
use Rattle.file_pieces.specs.declared.program_lanes.SentProgram.{SentProgram}
use Rattle.file_pieces.specs.ProgramLanes.{AreLanesFrom}

-- no two streams of a program have one PID
abbrev pub HasPidsApart : Program → Type 0
HasPidsApart program = AreDistinct (map (λ stream. stream.pid) program.map.streams.items)

-- This is sent of a program of a job: its streams in the file that the job names, each of its units in the version that the choice names, of those that its row of the
-- table has, and the pieces of its audio streams.
pub record IsSentProgram (job : ProgramJob) (program : Program) (row : ProgramRow) (choice : List ℕ) (sent : SentProgram) : Type 0 where
  pub name_is : sent.name.now ≡ job.file
  pub streams_are : sent.streams.now ≡ program.map.streams.items
  pub units_are : sent.units.now ≡ program.units
  pub rows_are : sent.rows.now ≡ row.units
  pub coarser_are : sent.coarser.now ≡ job.coarser.items
  pub choice_is : sent.choice.now ≡ choice
  pub audios_are : sent.audios.now ≡ map (λ audio. audio.pieces) program.audios

-- these are the lanes of a program of a job
abbrev pub AreLanesOf : ProgramJob → Program → ProgramRow → (choice : List ℕ) → List Lane → Type 0
AreLanesOf job program row choice lanes = (sent : SentProgram) × IsSentProgram job program row choice sent × AreLanesFrom sent 0 lanes

-- These are the lanes of the programs of a job, program by program: the choice has a version number for each of their units, in order.
abbrev pub AreJobLanes : List ProgramJob → List Program → List ProgramRow → (choice : List ℕ) → List Lane → Type 0
AreJobLanes [] [] [] choice lanes = lanes ≡ []
AreJobLanes (job ∷ jobs) (program ∷ programs) (row ∷ rows) choice lanes =
    (own : List Lane) × (rest : List Lane) × (lanes ≡ own ++ rest) × AreLanesOf job program row (take (length program.units) choice) own
    × AreJobLanes jobs programs rows (drop (length program.units) choice) rest
AreJobLanes jobs programs rows choice lanes = ⊥

-- The programs of a job can be sent out of their files: they were read, out of transport streams, no two streams of one have one PID, and the choice names versions that
-- their table has.
pub record CanBeSent (told : Option Files) (job : Job) (programs : List Program) (table : Table) (choice : List ℕ) : Type 0 where
  pub programs_are : AreProgramsOn told job programs
  pub forms : All (λ program. program.form ≡ Ts) job.programs
  pub pids : All HasPidsApart programs
  pub table_is : IsTableOf job programs table
  pub fits : Fits table choice
