-- Why a text gives no job.
use Rattle.std.specs.Prelude.{◌≡◌, ℕ, List, Some}
use Rattle.job_report.specs.declared.fault.JobFault.{JobFault}
use Rattle.job_report.specs.declared.fault.JobFault.TheVariants as faults
use Rattle.job_report.specs.declared.job.Job.{Job}
use Rattle.job_report.specs.Refusal.{OfField, first_refusal}
use Rattle.job_report.specs.SharedFile.{refusals_of_files}
use Rattle.job_files.specs.declared.job_stop.JobStop.{JobStop}
use Rattle.job_files.specs.declared.job_stop.JobStop.TheVariants.{Text, OutOfMemory}
use Rattle.job_files.specs.declared.job_stop.TextRefusal.TheVariants.{NoDocument, Field, Limit}
use Rattle.job_files.specs.JobFile.{IsTextRefused}

-- the text is refused so, or memory was wanted
abbrev pub IsTextStop : (text : List ℕ) → (named : List (List ℕ)) → JobStop → Type 0
IsTextStop text named (Text refusal) = IsTextRefused text named refusal
IsTextStop text named OutOfMemory = Unit {0}
IsTextStop text named stop = ⊥

-- a program of the job stands in a file that a command names itself
abbrev pub IsSharedStop : (named : List (List ℕ)) → Job → JobStop → Type 0
IsSharedStop named job (Text (Field name)) = first_refusal (refusals_of_files named 0 job.programs) ≡ Some (OfField name.bytes)
IsSharedStop named job stop = ⊥

-- why a job isn't read
abbrev pub stop_by : JobFault → JobStop
stop_by faults.JobSyntax = Text NoDocument
stop_by (faults.JobField name) = Text (Field name)
stop_by (faults.JobLimit name) = Text (Limit name)
stop_by faults.OutOfMemory = OutOfMemory
