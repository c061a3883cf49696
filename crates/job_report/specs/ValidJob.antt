-- Which jobs are valid: the limits of each field, as a caller of the reader uses them.
use Rattle.std.specs.Prelude.{◌≢◌, ℕ, ◌≤◌, List, length, All}
use Rattle.std.specs.List.{AllPairs}
use Rattle.std.specs.List.Sorted.{IsStrictlyIncreasing}
use Rattle.version_table.specs.declared.limits.TheConstants.{SLOT_LEAST, SLOT_MOST, NODES_MOST, EVALUATIONS_MOST, PROGRAMS_MOST}
use Rattle.job_report.specs.declared.limits.TheConstants.{START_MOST, STREAM_ID_MOST, NUMBER_MOST, WEIGHT_MOST, COARSER_MOST, COARSENESS_LEAST, COARSENESS_MOST, DRIFT_MOST, DROP_MOST, PID_MOST}
use Rattle.job_report.specs.declared.job.ProgramJob.{ProgramJob}
use Rattle.job_report.specs.declared.job.Job.{Job}

-- how coarse a version may be
abbrev pub IsCoarseness : ℕ → Type 0
IsCoarseness n = (COARSENESS_LEAST ≤ n) × (n ≤ COARSENESS_MOST)

-- a program of a job has a file, and its numbers are within the limits
pub record IsValidProgramJob (job : ProgramJob) : Type 0 where
  pub some_file : 1 ≤ length job.file
  pub some_program : 1 ≤ job.program
  pub program : job.program ≤ NUMBER_MOST
  pub some_number : 1 ≤ job.number
  pub number : job.number ≤ NUMBER_MOST
  pub some_weight : 1 ≤ job.weight
  pub weight : job.weight ≤ WEIGHT_MOST
  pub few_coarser : length job.coarser.items ≤ COARSER_MOST
  pub coarser : All IsCoarseness job.coarser.items
  pub coarser_rises : IsStrictlyIncreasing job.coarser.items
  pub drift : job.drift ≤ DRIFT_MOST
  pub few_dropped : length job.drop.items ≤ DROP_MOST
  pub dropped : All (λ pid. pid ≤ PID_MOST) job.drop.items

-- no two programs have one number in the output
abbrev pub HaveNumbersApart : List ProgramJob → Type 0
HaveNumbersApart programs = AllPairs (λ first second. first.number ≢ second.number) programs

-- a job whose numbers are within the limits and whose programs have numbers of their own
pub record IsValidJob (job : Job) : Type 0 where
  pub slot_least : SLOT_LEAST ≤ job.slot
  pub slot_most : job.slot ≤ SLOT_MOST
  pub start : job.start ≤ START_MOST
  pub stream_id : job.stream_id ≤ STREAM_ID_MOST
  pub some_nodes : 1 ≤ job.nodes
  pub nodes : job.nodes ≤ NODES_MOST
  pub evaluations : job.evaluations ≤ EVALUATIONS_MOST
  pub some_program : 1 ≤ length job.programs
  pub few_programs : length job.programs ≤ PROGRAMS_MOST
  pub programs : All IsValidProgramJob job.programs
  pub apart : HaveNumbersApart job.programs
