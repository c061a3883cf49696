-- Each line that a cause gives, but that of work that was done, tells its status.
use Rattle.std.proofs.Common.{◌≡◌, ℕ, List, refl}
use Rattle.job_report.specs.declared.report.Report.TheVariants as reports
use Rattle.command_words.specs.declared.status.JobRefusal.TheVariants.{TableSyntax, TableLimit, JobSyntax, JobField, JobLimit, ListSyntax}
use Rattle.command_words.specs.declared.status.CertRefusal.TheVariants.{Syntax, Fault}
use Rattle.command_words.specs.declared.status.Status.{Status}
use Rattle.command_words.specs.declared.status.Status.TheVariants as statuses
use Rattle.command_words.specs.Answer.{HasCause}
use Rattle.shelf_io.specs.Facts.{ShelfFacts}
use Rattle.command_words.specs.Report.{cert_report, refusal_report, miss_report}
use Rattle.command_words.specs.Status.{TellsStatus}
use Rattle.command_words.specs.Task.{Task}
use Rattle.run_report.specs.Report.{finding_report, source_report}

pub tells_status : (task : Task) (old new : ShelfFacts) (status : Status) (line : List ℕ) → HasCause task old new status line
    → (status ≡ statuses.Ok → ⊥) → TellsStatus status line
tells_status task old new statuses.Ok line cause not_done = absurd (not_done refl)
tells_status task old new statuses.Usage line cause not_done = record { report = reports.Usage; line_is = cause.0; told = refl }
tells_status task old new (statuses.JobRefused (TableSyntax n)) line cause not_done = record { report = refusal_report (TableSyntax n); line_is = cause.says; told = refl }
tells_status task old new (statuses.JobRefused (TableLimit name)) line cause not_done = record { report = refusal_report (TableLimit name); line_is = cause.says; told = refl }
tells_status task old new (statuses.JobRefused JobSyntax) line cause not_done = record { report = refusal_report JobSyntax; line_is = cause.says; told = refl }
tells_status task old new (statuses.JobRefused (JobField name)) line cause not_done = record { report = refusal_report (JobField name); line_is = cause.says; told = refl }
tells_status task old new (statuses.JobRefused (JobLimit name)) line cause not_done = record { report = refusal_report (JobLimit name); line_is = cause.says; told = refl }
tells_status task old new (statuses.JobRefused (ListSyntax n)) line cause not_done = record { report = refusal_report (ListSyntax n); line_is = cause.says; told = refl }
tells_status task old new (statuses.SourceRefused fault) line cause not_done = record { report = source_report fault; line_is = cause.says; told = refl }
tells_status task old new (statuses.CertRefused (Syntax byte)) line cause not_done = record { report = cert_report (Syntax byte); line_is = cause.says; told = refl }
tells_status task old new (statuses.CertRefused (Fault fault)) line cause not_done = record { report = cert_report (Fault fault); line_is = cause.says; told = refl }
tells_status task old new (statuses.Unschedulable miss) line cause not_done = record { report = miss_report miss; line_is = cause.says; told = refl }
tells_status task old new statuses.ReadFault line cause not_done = record { report = reports.ReadFault cause.name; line_is = cause.names; told = refl }
tells_status task old new statuses.WriteFault line cause not_done = record { report = reports.WriteFault cause.name; line_is = cause.names; told = refl }
tells_status task old new statuses.Missing line cause not_done = record { report = reports.Missing cause.name; line_is = cause.names; told = refl }
tells_status task old new statuses.OutOfMemory line cause not_done = absurd cause
tells_status task old new (statuses.AuditFault finding) line cause not_done = record { report = finding_report finding; line_is = cause.says; told = refl }
tells_status task old new statuses.NoFit line cause not_done = record { report = reports.NoFit cause.0; line_is = cause.2; told = refl }
