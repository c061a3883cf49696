-- What a job calls for, `check` does.
use Rattle.std.proofs.Common.{ℕ, List, Option, refl, inl}
use Rattle.shelf_io.specs.Files.{Files}
use Rattle.command_words.specs.declared.status.Status.{Status}
use Rattle.command_words.specs.declared.status.Status.TheVariants as statuses
use Rattle.job_files.specs.JobCalls.{JobCallsFor, JobMayRefuse}
use Rattle.job_files.proofs.JobStopped.{ReadsJob}
use Rattle.check_command.specs.CheckCommand.{CheckCallsFor, CheckMayRefuse, check_task, files_of_check}

check_calls : (job certificate : List ℕ) (told : Option Files) (status : Status) → JobCallsFor told job (files_of_check job certificate) status
    → CheckCallsFor job certificate told status
check_calls job certificate told statuses.Ok calls = absurd calls
check_calls job certificate told (statuses.CertRefused refusal) calls = absurd calls
check_calls job certificate told statuses.Missing calls = inl calls
check_calls job certificate told statuses.Usage calls = calls
check_calls job certificate told (statuses.JobRefused refusal) calls = calls
check_calls job certificate told (statuses.SourceRefused fault) calls = calls
check_calls job certificate told (statuses.Unschedulable miss) calls = calls
check_calls job certificate told statuses.ReadFault calls = calls
check_calls job certificate told statuses.WriteFault calls = calls
check_calls job certificate told statuses.OutOfMemory calls = calls
check_calls job certificate told (statuses.AuditFault finding) calls = calls
check_calls job certificate told statuses.NoFit calls = calls

-- and may be refused for
check_may : (status : Status) → JobMayRefuse status → CheckMayRefuse status
check_may statuses.Ok may = may
check_may statuses.Usage may = may
check_may (statuses.JobRefused refusal) may = may
check_may (statuses.SourceRefused fault) may = may
check_may (statuses.Unschedulable miss) may = may
check_may statuses.ReadFault may = may
check_may statuses.WriteFault may = may
check_may (statuses.CertRefused refusal) may = tt
check_may statuses.Missing may = may
check_may statuses.OutOfMemory may = may
check_may (statuses.AuditFault finding) may = may
check_may statuses.NoFit may = may

pub check_reads_job : (job certificate : List ℕ) → ReadsJob (check_task job certificate) job (files_of_check job certificate)
check_reads_job job certificate = record {
  calls = check_calls job certificate;
  may = check_may;
  reads = λ told file limit is. inl is;
  leaves = λ held. refl;
}
