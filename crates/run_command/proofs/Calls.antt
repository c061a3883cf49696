-- What a job calls for, `run` does.
use Rattle.std.proofs.Common.{ℕ, List, Option, refl, inl}
use Rattle.shelf_io.specs.Files.{Files}
use Rattle.command_words.specs.declared.status.Status.{Status}
use Rattle.command_words.specs.declared.status.Status.TheVariants as statuses
use Rattle.job_files.specs.JobCalls.{JobCallsFor, JobMayRefuse}
use Rattle.job_files.proofs.JobStopped.{ReadsJob}
use Rattle.run_command.specs.RunCommand.{RunCallsFor, RunMayRefuse, files_of_run, run_task}

run_calls : (job out certificate : List ℕ) (told : Option Files) (status : Status) → JobCallsFor told job (files_of_run job out certificate) status
    → RunCallsFor job out certificate told status
run_calls job out certificate told statuses.Ok calls = absurd calls
run_calls job out certificate told (statuses.Unschedulable miss) calls = absurd calls
run_calls job out certificate told statuses.Usage calls = calls
run_calls job out certificate told (statuses.JobRefused refusal) calls = calls
run_calls job out certificate told (statuses.SourceRefused fault) calls = calls
run_calls job out certificate told statuses.ReadFault calls = calls
run_calls job out certificate told statuses.WriteFault calls = calls
run_calls job out certificate told (statuses.CertRefused refusal) calls = calls
run_calls job out certificate told statuses.Missing calls = calls
run_calls job out certificate told statuses.OutOfMemory calls = calls
run_calls job out certificate told (statuses.AuditFault finding) calls = calls
run_calls job out certificate told statuses.NoFit calls = calls

-- and may be refused for
run_may : (status : Status) → JobMayRefuse status → RunMayRefuse status
run_may statuses.Ok may = may
run_may statuses.Usage may = may
run_may (statuses.JobRefused refusal) may = may
run_may (statuses.SourceRefused fault) may = may
run_may (statuses.Unschedulable miss) may = tt
run_may statuses.ReadFault may = may
run_may statuses.WriteFault may = may
run_may (statuses.CertRefused refusal) may = may
run_may statuses.Missing may = may
run_may statuses.OutOfMemory may = may
run_may (statuses.AuditFault finding) may = may
run_may statuses.NoFit may = may

pub run_reads_job : (job out certificate : List ℕ) → ReadsJob (run_task job out certificate) job (files_of_run job out certificate)
run_reads_job job out certificate = record {
  calls = run_calls job out certificate;
  may = run_may;
  reads = λ told file limit is. is;
  leaves = λ held. inl refl;
}
