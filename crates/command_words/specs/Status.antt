-- The statuses, with the exit status of each.
use Rattle.std.specs.Prelude.{◌≡◌, ℕ, List, Some, codes}
use Rattle.serde_json.specs.Find.{get}
use Rattle.job_report.specs.Report.{json_number, report_object, report_line}
use Rattle.job_report.specs.declared.report.Report.{Report}
use Rattle.command_words.specs.declared.status.Status.{Status}
use Rattle.command_words.specs.declared.status.Status.TheVariants.{Ok, Usage, JobRefused, SourceRefused, Unschedulable, ReadFault, WriteFault, CertRefused, Missing, OutOfMemory, AuditFault, NoFit}
use Rattle.command_words.specs.declared.status.JobRefusal.{JobRefusal}
use Rattle.command_words.specs.declared.status.JobRefusal.TheVariants.{TableSyntax, TableLimit, JobSyntax, JobField, JobLimit, ListSyntax}

-- the exit status
abbrev pub code_of : Status → ℕ
code_of Ok = 0
code_of Usage = 2
code_of (JobRefused refusal) = 3
code_of (SourceRefused fault) = 4
code_of (Unschedulable miss) = 5
code_of ReadFault = 6
code_of WriteFault = 7
code_of (CertRefused refusal) = 8
code_of Missing = 9
code_of OutOfMemory = 10
code_of (AuditFault finding) = 11
code_of NoFit = 12

-- two refusals of a text are the same, names compared by their bytes
abbrev pub IsSameRefusal : JobRefusal → JobRefusal → Type 0
IsSameRefusal (TableSyntax n) (TableSyntax m) = n ≡ m
IsSameRefusal (TableLimit name) (TableLimit other) = name.bytes ≡ other.bytes
IsSameRefusal JobSyntax JobSyntax = Unit {0}
IsSameRefusal (JobField name) (JobField other) = name.bytes ≡ other.bytes
IsSameRefusal (JobLimit name) (JobLimit other) = name.bytes ≡ other.bytes
IsSameRefusal (ListSyntax n) (ListSyntax m) = n ≡ m
IsSameRefusal first second = ⊥

-- two statuses are the same, names compared by their bytes
abbrev pub IsSameStatus : Status → Status → Type 0
IsSameStatus (JobRefused refusal) (JobRefused other) = IsSameRefusal refusal other
IsSameStatus first second = first ≡ second

-- a line reports this status: it is that of a report that has the status's code under its key `status`
pub record TellsStatus (status : Status) (line : List ℕ) : Type 0 where
  pub report : Report
  pub line_is : line ≡ report_line report
  pub told : get (codes "status") (report_object report) ≡ Some (json_number (code_of status))
