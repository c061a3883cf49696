-- One program of a file, as it is probed: as the only one of a job, with the limits of a table's text.
use Rattle.std.specs.Prelude.{◌≡◌, ℕ, ◌<◌, ◌≤◌, List, []}
use Rattle.job_report.specs.declared.job.Form.TheVariants.{Ts}
use Rattle.job_report.specs.declared.job.ProgramJob.{ProgramJob}
use Rattle.job_report.specs.declared.limits.TheConstants.{COARSER_DEFAULT, DRIFT_DEFAULT, WEIGHT_DEFAULT}
use Rattle.job_programs.specs.declared.limits.TheConstants.{PROBED_AUDIO_PACKETS_MOST}
use Rattle.program_reader.specs.declared.program.Program.{Program}
use Rattle.program_reader.specs.declared.program_fault.SourceKind.{SourceKind}
use Rattle.program_reader.specs.declared.program_fault.SourceKind.TheVariants.{ProgramLimit}
use Rattle.job_programs.specs.Programs.{IsNextProgram, IsNextRefused}
use Rattle.job_programs.specs.Share.{audio_packets}

-- the program of this number of a transport stream, without these PIDs, in a job that says nothing else
abbrev pub probed_job : (number : ℕ) → (drop : List ℕ) → ProgramJob
probed_job number drop =
    record { file = []; program = number; number = number; weight = WEIGHT_DEFAULT; coarser = record { items = COARSER_DEFAULT }; drift = DRIFT_DEFAULT; drop = record { items = drop }; form = Ts }

-- A file holds this program of a number, and the text of a table has room for its audio packets.
pub record IsProbed (slot start number : ℕ) (drop : List ℕ) (content : List ℕ) (program : Program) : Type 0 where
  pub is_program : IsNextProgram slot start [] [] (probed_job number drop) content program
  pub few_packets : audio_packets program.audios ≤ PROBED_AUDIO_PACKETS_MOST

-- What refuses a file that is probed: what refuses it as the only one of a job, or too many audio packets.
pub data IsProbeRefused (slot start number : ℕ) (drop : List ℕ) (content : List ℕ) (kind : SourceKind) (at : ℕ) : Type 0 where
  refused : IsNextRefused slot start [] [] (probed_job number drop) content kind at → IsProbeRefused slot start number drop content kind at
  many_packets : (program : Program) → IsNextProgram slot start [] [] (probed_job number drop) content program
      → PROBED_AUDIO_PACKETS_MOST < audio_packets program.audios → kind ≡ ProgramLimit → at ≡ 0
      → IsProbeRefused slot start number drop content kind at
