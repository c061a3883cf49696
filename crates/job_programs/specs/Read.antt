-- Programs that were read for a job, whichever files stood there while they were (this project's).
use Rattle.std.specs.Prelude.{ℕ, ◌≤◌, List, [], ◌∷◌, length}
use Rattle.job_report.specs.declared.job.Job.{Job}
use Rattle.job_report.specs.declared.job.ProgramJob.{ProgramJob}
use Rattle.program_reader.specs.declared.limits.TheConstants.{UNITS_MOST}
use Rattle.program_reader.specs.declared.program.Program.{Program}
use Rattle.program_reader.specs.ReadProgram.{IsReadProgram}
use Rattle.job_programs.specs.declared.limits.TheConstants.{PROBED_AUDIO_PACKETS_MOST}
use Rattle.job_programs.specs.Probe.{probed_job}
use Rattle.job_programs.specs.Programs.{IsWithinTime, units_of_programs}
use Rattle.job_programs.specs.Share.{KeepsShare, audio_packets}

-- A program was read for this one of a job in slots of this length: no time of it is past the last, and it takes no more of a table than its share.
pub record IsReadFor (slot start : ℕ) (job : ProgramJob) (program : Program) : Type 0 where
  pub read : IsReadProgram start program
  pub within : IsWithinTime slot program
  pub share : KeepsShare job.weight job.drift job.coarser.items program

-- one was read for each
abbrev pub AreReadEach : (slot start : ℕ) → List ProgramJob → List Program → Type 0
AreReadEach slot start [] [] = Unit {0}
AreReadEach slot start (job ∷ jobs) (program ∷ programs) = IsReadFor slot start job program × AreReadEach slot start jobs programs
AreReadEach slot start jobs programs = ⊥

-- Programs were read, one for each of these of a job, and have no more units together than a table may have.
pub record AreReadFor (slot start : ℕ) (jobs : List ProgramJob) (programs : List Program) : Type 0 where
  pub each : AreReadEach slot start jobs programs
  pub few_units : units_of_programs programs ≤ UNITS_MOST

-- the programs of a job were read
abbrev pub AreReadPrograms : Job → List Program → Type 0
AreReadPrograms job = AreReadFor job.slot job.start job.programs

-- A program of a file that is probed was read: as the only one of a job, and the text of a table has room for its audio packets.
pub record IsReadProbed (slot start number : ℕ) (drop : List ℕ) (program : Program) : Type 0 where
  pub read_for : IsReadFor slot start (probed_job number drop) program
  pub few_units : length program.units ≤ UNITS_MOST
  pub few_packets : audio_packets program.audios ≤ PROBED_AUDIO_PACKETS_MOST
