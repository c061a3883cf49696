-- What the job in a file calls for before its programs have a table, and how a command ends there.
use Rattle.std.specs.Prelude.{◌≡◌, ℕ, List, Option, None, IfSome}
use Rattle.job_report.specs.declared.report.Report.TheVariants as reports
use Rattle.run_report.specs.Report.{source_report}
use Rattle.shelf_io.specs.Files.{Files, Lacks}
use Rattle.command_words.specs.declared.ended.Ended.{Ended}
use Rattle.command_words.specs.declared.status.Status.{Status}
use Rattle.command_words.specs.declared.status.Status.TheVariants as statuses
use Rattle.command_words.specs.declared.status.JobRefusal.{JobRefusal}
use Rattle.command_words.specs.declared.status.JobRefusal.TheVariants.{JobSyntax, JobField, JobLimit}
use Rattle.command_words.specs.Ended.{EndsBy}
use Rattle.command_words.specs.Report.{refusal_report}
use Rattle.job_files.specs.declared.job_stop.JobStop.{JobStop}
use Rattle.job_files.specs.declared.job_stop.JobStop.TheVariants.{Text, Source, Unread, Missing, OutOfMemory}
use Rattle.job_files.specs.declared.job_stop.TextRefusal.{TextRefusal}
use Rattle.job_files.specs.declared.job_stop.TextRefusal.TheVariants.{NoDocument, Field, Limit}
use Rattle.job_files.specs.JobFile.{HoldsRefused}
use Rattle.job_files.specs.Stops.{HoldsRefusedProgram, IsNextFile}

-- the job in a file calls for this status before its programs have a table: its text is refused, or a program, or a file isn't there
abbrev pub JobCallsFor : Option Files → (name : List ℕ) → (named : List (List ℕ)) → Status → Type 0
JobCallsFor told name named (statuses.JobRefused JobSyntax) = HoldsRefused told name named NoDocument
JobCallsFor told name named (statuses.JobRefused (JobField field)) = HoldsRefused told name named (Field field)
JobCallsFor told name named (statuses.JobRefused (JobLimit field)) = HoldsRefused told name named (Limit field)
JobCallsFor told name named (statuses.SourceRefused fault) = HoldsRefusedProgram told name named fault
JobCallsFor told name named statuses.Missing = (file : List ℕ) × IsNextFile told name named file × Lacks told file
JobCallsFor told name named status = ⊥

-- a command that reads a job may refuse its text and its programs
abbrev pub JobMayRefuse : Status → Type 0
JobMayRefuse (statuses.JobRefused JobSyntax) = Unit {0}
JobMayRefuse (statuses.JobRefused (JobField field)) = Unit {0}
JobMayRefuse (statuses.JobRefused (JobLimit field)) = Unit {0}
JobMayRefuse (statuses.SourceRefused fault) = Unit {0}
JobMayRefuse status = ⊥

-- the refusal of a job text
abbrev pub refusal_by_text : TextRefusal → JobRefusal
refusal_by_text NoDocument = JobSyntax
refusal_by_text (Field name) = JobField name
refusal_by_text (Limit name) = JobLimit name

-- a command ends by what stopped it, or without an answer where memory was wanted
abbrev pub StopEnds : JobStop → Option Ended → Type 0
StopEnds (Text refusal) result = IfSome result (EndsBy (statuses.JobRefused (refusal_by_text refusal)) (refusal_report (refusal_by_text refusal)))
StopEnds (Source fault) result = IfSome result (EndsBy (statuses.SourceRefused fault) (source_report fault))
StopEnds (Unread file) result = IfSome result (EndsBy statuses.ReadFault (reports.ReadFault file))
StopEnds (Missing file) result = IfSome result (EndsBy statuses.Missing (reports.Missing file))
StopEnds OutOfMemory result = result ≡ None
