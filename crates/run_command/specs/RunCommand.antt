-- What `run JOB OUT CERT` does.
use Rattle.std.specs.Prelude.{◌≡◌, ℕ, ◌≤◌, ◌⊎◌, List, [], ◌∷◌, length, take, Option, Some}
use Rattle.std.specs.FinMap.{insert}
use Rattle.bound_certificate.specs.declared.cert.Cert.{Cert}
use Rattle.bound_certificate.specs.Spelling.{cert_spelling}
use Rattle.branch_plan.specs.Plan.{SmallestIsScheduled}
use Rattle.command_words.specs.declared.status.Status.{Status}
use Rattle.command_words.specs.declared.status.Status.TheVariants.{Ok, Unschedulable}
use Rattle.command_words.specs.declared.command.RunFiles.{RunFiles}
use Rattle.command_words.specs.Task.{Task}
use Rattle.job_report.specs.Report.{report_line}
use Rattle.job_report.specs.declared.report.Report.{Report}
use Rattle.job_files.specs.declared.job_table.JobTable.{JobTable}
use Rattle.job_files.specs.JobCalls.{JobCallsFor, JobMayRefuse}
use Rattle.job_files.specs.JobTable.{IsJobTable}
use Rattle.job_files.specs.Stops.{IsJobFile}
use Rattle.plan_command.specs.Plan.{IsPlan}
use Rattle.run_report.specs.Report.{run_report}
use Rattle.shelf_io.specs.Files.{Files}
use Rattle.slot_rule.specs.declared.slot_list.SlotList.{SlotList}
use Rattle.slot_rule.specs.Schedule.{IsFirstMiss}
use Rattle.slot_rule.specs.SlotList.{IsSlotList}
use Rattle.version_table.specs.Choice.{IsSmallestChoice}
use Rattle.run_command.specs.Written.{IsStreamOn}

-- the files that `run` names itself
abbrev pub files_of_run : (job out certificate : List ℕ) → List (List ℕ)
files_of_run job out certificate = job ∷ out ∷ certificate ∷ []

-- ---- what is made

-- what a run makes: a job with its programs and their table, the certificate of a plan, its slots, and the stream
pub record RunWork : Type 0 where
  pub made : JobTable
  pub cert : Cert
  pub slots : SlotList
  pub stream : List ℕ

-- this is what a run of the job in JOB makes: any plan of its table may stand
pub record IsWork (told : Option Files) (job out certificate : List ℕ) (work : RunWork) : Type 0 where
  pub made : IsJobTable told job (files_of_run job out certificate) work.made
  pub is_plan : IsPlan work.made.table work.cert
  pub are_slots : IsSlotList work.made.table work.cert.choice work.slots
  pub is_stream : IsStreamOn told work.made work.cert.choice work.slots work.stream

-- what is reported of it
abbrev pub report_of_run : RunWork → Report
report_of_run work = run_report work.made.job.programs work.made.programs work.cert work.slots.slots

-- ---- the command

-- what JOB and the files that it names hold calls for this status
abbrev pub RunCallsFor : (job out certificate : List ℕ) → Option Files → Status → Type 0
RunCallsFor job out certificate told Ok =
    (made : JobTable) × IsJobTable told job (files_of_run job out certificate) made × SmallestIsScheduled made.table
RunCallsFor job out certificate told (Unschedulable miss) =
    (made : JobTable) × (choice : List ℕ) × IsJobTable told job (files_of_run job out certificate) made
    × IsSmallestChoice made.table choice × IsFirstMiss made.table choice miss
RunCallsFor job out certificate told status = JobCallsFor told job (files_of_run job out certificate) status

-- OUT holds the stream of a plan, CERT holds its certificate, whose values the line prints, and every other file stays
abbrev pub RunDone : (job out certificate : List ℕ) → Files → (line : List ℕ) → (after : Files) → Type 0
RunDone job out certificate files line after =
    (work : RunWork) × IsWork (Some files) job out certificate work × (line ≡ report_line (report_of_run work))
    × (after ≡ insert (insert files out work.stream) certificate (cert_spelling work.cert))

-- OUT holds a front of the stream, or all of it and CERT a front of the certificate; every other file stays
abbrev pub HoldsPartOf : (out certificate : List ℕ) → RunWork → (files after : Files) → Type 0
HoldsPartOf out certificate work files after =
    ((k : ℕ) × (k ≤ length work.stream) × (after ≡ insert files out (take k work.stream)))
    ⊎ ((k : ℕ) × (k ≤ length (cert_spelling work.cert)) × (after ≡ insert (insert files out work.stream) certificate (take k (cert_spelling work.cert))))

-- files are as they were, or hold a part of what a run makes: CERT is changed only where OUT is whole
abbrev pub RunLeaves : (job out certificate : List ℕ) → Files → (after : Files) → Type 0
RunLeaves job out certificate files after =
    (after ≡ files)
    ⊎ ((work : RunWork) × IsWork (Some files) job out certificate work × HoldsPartOf out certificate work files after)

-- the line prints the work of a run of the job in JOB
abbrev pub TellsRun : (job out certificate : List ℕ) → Option Files → (line : List ℕ) → Type 0
TellsRun job out certificate told line = (work : RunWork) × IsWork told job out certificate work × (line ≡ report_line (report_of_run work))

-- `run` may refuse the job or one of its programs, and miss
abbrev pub RunMayRefuse : Status → Type 0
RunMayRefuse (Unschedulable miss) = Unit {0}
RunMayRefuse status = JobMayRefuse status

-- what `run` has to do: it reads what the job in JOB is read from, and writes OUT and CERT
abbrev pub run_task : (job out certificate : List ℕ) → Task
run_task job out certificate = record {
  calls_for = RunCallsFor job out certificate;
  may_refuse = RunMayRefuse;
  tells_work = TellsRun job out certificate;
  fits_none = λ told slots. ⊥;
  is_done = RunDone job out certificate;
  leaves = RunLeaves job out certificate;
  reads = λ told name limit. IsJobFile told job (files_of_run job out certificate) name limit;
  writes = λ name. (name ≡ out) ⊎ (name ≡ certificate);
}

-- that of the files that are named
abbrev pub run_task_of : RunFiles → Task
run_task_of files = run_task files.job.now files.out.now files.certificate.now
