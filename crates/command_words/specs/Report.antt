-- What is reported of a refused text, of a refused certificate and of a miss.
use Rattle.job_report.specs.declared.report.Report.{Report}
use Rattle.job_report.specs.declared.report.Report.TheVariants as reports
use Rattle.slot_rule.specs.declared.sent.Miss.{Miss}
use Rattle.run_report.specs.Report.{cert_fault_report}
use Rattle.command_words.specs.declared.status.CertRefusal.{CertRefusal}
use Rattle.command_words.specs.declared.status.CertRefusal.TheVariants.{Syntax, Fault}
use Rattle.command_words.specs.declared.status.JobRefusal.{JobRefusal}
use Rattle.command_words.specs.declared.status.JobRefusal.TheVariants.{TableSyntax, TableLimit, JobSyntax, JobField, JobLimit, ListSyntax}

-- a refused text: the first line that no table has or no list, that it is no document, or the name of the first field or limit that is broken
abbrev pub refusal_report : JobRefusal → Report
refusal_report (TableSyntax n) = reports.TableSyntax n
refusal_report (TableLimit name) = reports.TableLimit name
refusal_report JobSyntax = reports.JobSyntax
refusal_report (JobField name) = reports.JobField name
refusal_report (JobLimit name) = reports.JobLimit name
refusal_report (ListSyntax n) = reports.ListSyntax n

-- a refused certificate: the first byte that no certificate has there, or the first fault
abbrev pub cert_report : CertRefusal → Report
cert_report (Syntax byte) = reports.CertSyntax byte
cert_report (Fault fault) = cert_fault_report fault

-- the first miss of the smallest choice
abbrev pub miss_report : Miss → Report
miss_report miss = reports.Unschedulable miss.due miss.slot miss.stream miss.unit
