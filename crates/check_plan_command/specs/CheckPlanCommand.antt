-- What `check-plan TABLE CERT` does.
use Rattle.std.specs.Prelude.{◌≡◌, ◌⊎◌, ℕ, List, Option, Some}
use Rattle.bound_certificate.specs.declared.cert.Cert.{Cert}
use Rattle.bound_certificate.specs.declared.limits.TheConstants.{CERT_BYTES_MOST}
use Rattle.bound_certificate.specs.Reading.{IsCertRead, RefusedAt}
use Rattle.branch_plan.specs.Plan.{BoundsAll}
use Rattle.certificate_checker.specs.Checked.{IsFaultless, IsFirstFault}
use Rattle.job_report.specs.Report.{report_line}
use Rattle.job_report.specs.declared.report.Report.TheVariants as reports
use Rattle.shelf_io.specs.Files.{Files, Lacks}
use Rattle.version_table.specs.declared.limits.TheConstants.{TABLE_TEXT_MOST}
use Rattle.version_table.specs.declared.table.Table.{Table}
use Rattle.command_words.specs.declared.status.Status.{Status}
use Rattle.command_words.specs.declared.status.Status.TheVariants.{Ok, JobRefused, CertRefused, Missing}
use Rattle.command_words.specs.declared.status.JobRefusal.TheVariants.{TableSyntax, TableLimit}
use Rattle.command_words.specs.declared.status.CertRefusal.TheVariants.{Syntax, Fault}
use Rattle.command_words.specs.Held.{HoldsText}
use Rattle.command_words.specs.declared.command.CheckPlanFiles.{CheckPlanFiles}
use Rattle.command_words.specs.Task.{Task}
use Rattle.plan_command.specs.PlanCommand.{HoldsTable, IsTableRefused}
use Rattle.check_command.specs.CheckCommand.{HoldsCert}

-- what TABLE and CERT hold calls for this status
abbrev pub CheckPlanCallsFor : (table certificate : List ℕ) → Option Files → Status → Type 0
CheckPlanCallsFor table certificate told Ok =
    (made : Table) × (cert : Cert) × HoldsTable told table made × HoldsCert told certificate cert × IsFaultless made cert
CheckPlanCallsFor table certificate told (JobRefused refusal) = (text : List ℕ) × HoldsText told table text × IsTableRefused text refusal
CheckPlanCallsFor table certificate told (CertRefused (Syntax n)) =
    (made : Table) × (bytes : List ℕ) × HoldsTable told table made × HoldsText told certificate bytes × IsCertRead bytes (RefusedAt n)
CheckPlanCallsFor table certificate told (CertRefused (Fault fault)) =
    (made : Table) × (cert : Cert) × HoldsTable told table made × HoldsCert told certificate cert × IsFirstFault made cert fault
CheckPlanCallsFor table certificate told Missing =
    Lacks told table ⊎ ((made : Table) × HoldsTable told table made × Lacks told certificate)
CheckPlanCallsFor table certificate told status = ⊥

-- a certificate, which CERT holds, is without fault for the table that TABLE holds, and no scheduled choice has less distortion than its bound
pub record IsPlanAccepted (told : Option Files) (table certificate : List ℕ) (made : Table) (cert : Cert) : Type 0 where
  pub table_is : HoldsTable told table made
  pub cert_is : HoldsCert told certificate cert
  pub faultless : IsFaultless made cert
  pub bound : BoundsAll made cert.bound

-- CERT holds a certificate of the table in TABLE that is accepted, whose bound the line prints, and every file stays
abbrev pub CheckPlanDone : (table certificate : List ℕ) → Files → (line : List ℕ) → (after : Files) → Type 0
CheckPlanDone table certificate files line after =
    (made : Table) × (cert : Cert) × IsPlanAccepted (Some files) table certificate made cert
    × (line ≡ report_line (reports.Check cert.bound)) × (after ≡ files)

-- the line prints the bound of a certificate of the table in TABLE that is accepted
abbrev pub TellsPlanAccepted : (table certificate : List ℕ) → Option Files → (line : List ℕ) → Type 0
TellsPlanAccepted table certificate told line =
    (made : Table) × (cert : Cert) × IsPlanAccepted told table certificate made cert × (line ≡ report_line (reports.Check cert.bound))

-- `check-plan` may refuse the text of a table, and the certificate
abbrev pub CheckPlanMayRefuse : Status → Type 0
CheckPlanMayRefuse (JobRefused (TableSyntax n)) = Unit {0}
CheckPlanMayRefuse (JobRefused (TableLimit name)) = Unit {0}
CheckPlanMayRefuse (CertRefused refusal) = Unit {0}
CheckPlanMayRefuse status = ⊥

-- `check-plan` reads TABLE and CERT, each up to one byte past its limit
abbrev pub CheckPlanReads : (table certificate : List ℕ) → (name : List ℕ) → (limit : ℕ) → Type 0
CheckPlanReads table certificate name limit =
    ((name ≡ table) × (limit ≡ TABLE_TEXT_MOST)) ⊎ ((name ≡ certificate) × (limit ≡ CERT_BYTES_MOST))

-- what `check-plan` has to do: it changes no file
abbrev pub check_plan_task : (table certificate : List ℕ) → Task
check_plan_task table certificate = record {
  calls_for = CheckPlanCallsFor table certificate;
  may_refuse = CheckPlanMayRefuse;
  tells_work = TellsPlanAccepted table certificate;
  fits_none = λ told slots. ⊥;
  is_done = CheckPlanDone table certificate;
  leaves = λ files after. after ≡ files;
  reads = λ told name limit. CheckPlanReads table certificate name limit;
  writes = λ name. ⊥;
}

-- that of the files that are named
abbrev pub check_plan_task_of : CheckPlanFiles → Task
check_plan_task_of files = check_plan_task files.table.now files.certificate.now
