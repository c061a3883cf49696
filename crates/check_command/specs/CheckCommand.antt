-- What `check JOB CERT` does.
use Rattle.std.specs.Prelude.{◌≡◌, ◌⊎◌, ℕ, List, [], ◌∷◌, Option, Some}
use Rattle.bound_certificate.specs.declared.cert.Cert.{Cert}
use Rattle.bound_certificate.specs.declared.limits.TheConstants.{CERT_BYTES_MOST}
use Rattle.bound_certificate.specs.Reading.{IsCertRead, Holds, RefusedAt}
use Rattle.branch_plan.specs.Plan.{BoundsAll}
use Rattle.certificate_checker.specs.Checked.{IsFaultless, IsFirstFault}
use Rattle.job_report.specs.Report.{report_line}
use Rattle.job_report.specs.declared.report.Report.TheVariants as reports
use Rattle.job_files.specs.declared.job_table.JobTable.{JobTable}
use Rattle.job_files.specs.JobCalls.{JobCallsFor, JobMayRefuse}
use Rattle.job_files.specs.JobTable.{IsJobTable}
use Rattle.job_files.specs.Stops.{IsJobFile}
use Rattle.shelf_io.specs.Files.{Files, Lacks}
use Rattle.command_words.specs.declared.status.Status.{Status}
use Rattle.command_words.specs.declared.status.Status.TheVariants.{Ok, CertRefused, Missing}
use Rattle.command_words.specs.declared.status.CertRefusal.TheVariants.{Syntax, Fault}
use Rattle.command_words.specs.Held.{HoldsText}
use Rattle.command_words.specs.declared.command.CheckFiles.{CheckFiles}
use Rattle.command_words.specs.Task.{Task}

-- the files that `check` names itself
abbrev pub files_of_check : (job certificate : List ℕ) → List (List ℕ)
files_of_check job certificate = job ∷ certificate ∷ []

-- bytes are those of this certificate, and a file holds them, where files are told
pub record HoldsCert (told : Option Files) (name : List ℕ) (cert : Cert) : Type 0 where
  pub bytes : List ℕ
  pub held : HoldsText told name bytes
  pub read : IsCertRead bytes (Holds cert)

-- JOB has this table, and CERT holds this certificate
pub record HoldsBoth (told : Option Files) (job certificate : List ℕ) (made : JobTable) (cert : Cert) : Type 0 where
  pub made_is : IsJobTable told job (files_of_check job certificate) made
  pub cert_is : HoldsCert told certificate cert

-- what JOB, the files that it names and CERT hold calls for this status
abbrev pub CheckCallsFor : (job certificate : List ℕ) → Option Files → Status → Type 0
CheckCallsFor job certificate told Ok = (made : JobTable) × (cert : Cert) × HoldsBoth told job certificate made cert × IsFaultless made.table cert
CheckCallsFor job certificate told (CertRefused (Syntax n)) =
    (made : JobTable) × (bytes : List ℕ) × IsJobTable told job (files_of_check job certificate) made × HoldsText told certificate bytes
    × IsCertRead bytes (RefusedAt n)
CheckCallsFor job certificate told (CertRefused (Fault fault)) =
    (made : JobTable) × (cert : Cert) × HoldsBoth told job certificate made cert × IsFirstFault made.table cert fault
CheckCallsFor job certificate told Missing =
    JobCallsFor told job (files_of_check job certificate) Missing
    ⊎ ((made : JobTable) × IsJobTable told job (files_of_check job certificate) made × Lacks told certificate)
CheckCallsFor job certificate told status = JobCallsFor told job (files_of_check job certificate) status

-- a certificate of the table of JOB, which CERT holds, is without fault, and no scheduled choice has less distortion than its bound
pub record IsAccepted (told : Option Files) (job certificate : List ℕ) (made : JobTable) (cert : Cert) : Type 0 where
  pub holds : HoldsBoth told job certificate made cert
  pub faultless : IsFaultless made.table cert
  pub bound : BoundsAll made.table cert.bound

-- CERT holds a certificate of the table of JOB that is accepted, whose bound the line prints, and every file stays
abbrev pub CheckDone : (job certificate : List ℕ) → Files → (line : List ℕ) → (after : Files) → Type 0
CheckDone job certificate files line after =
    (made : JobTable) × (cert : Cert) × IsAccepted (Some files) job certificate made cert
    × (line ≡ report_line (reports.Check cert.bound)) × (after ≡ files)

-- the line prints the bound of a certificate of the table of JOB that is accepted
abbrev pub TellsAccepted : (job certificate : List ℕ) → Option Files → (line : List ℕ) → Type 0
TellsAccepted job certificate told line =
    (made : JobTable) × (cert : Cert) × IsAccepted told job certificate made cert × (line ≡ report_line (reports.Check cert.bound))

-- `check` may refuse the job or one of its programs, and the certificate
abbrev pub CheckMayRefuse : Status → Type 0
CheckMayRefuse (CertRefused refusal) = Unit {0}
CheckMayRefuse status = JobMayRefuse status

-- `check` reads what the job in JOB is read from, and CERT, up to one byte past the limit of certificates
abbrev pub CheckReads : (job certificate : List ℕ) → Option Files → (name : List ℕ) → (limit : ℕ) → Type 0
CheckReads job certificate told name limit =
    IsJobFile told job (files_of_check job certificate) name limit ⊎ ((name ≡ certificate) × (limit ≡ CERT_BYTES_MOST))

-- what `check` has to do: it changes no file
abbrev pub check_task : (job certificate : List ℕ) → Task
check_task job certificate = record {
  calls_for = CheckCallsFor job certificate;
  may_refuse = CheckMayRefuse;
  tells_work = TellsAccepted job certificate;
  fits_none = λ told slots. ⊥;
  is_done = CheckDone job certificate;
  leaves = λ files after. after ≡ files;
  reads = CheckReads job certificate;
  writes = λ name. ⊥;
}

-- that of the files that are named
abbrev pub check_task_of : CheckFiles → Task
check_task_of files = check_task files.job.now files.certificate.now
