-- What `fit JOB LIST` does.
use Rattle.std.specs.Prelude.{◌≡◌, ◌⊎◌, ℕ, List, [], ◌∷◌, Option, Some, None}
use Rattle.job_programs.specs.Told.{AreProgramsOn, IsRefusedOn}
use Rattle.job_report.specs.Report.{report_line}
use Rattle.job_report.specs.declared.job.Job.{Job}
use Rattle.job_report.specs.declared.report.Report.TheVariants as reports
use Rattle.job_report.specs.declared.report.SlotVerdict.{SlotVerdict}
use Rattle.job_files.specs.declared.job_table.JobTable.{JobTable}
use Rattle.job_files.specs.declared.job_stop.TextRefusal.TheVariants.{NoDocument, Field, Limit}
use Rattle.job_files.specs.JobFile.{HoldsJob, HoldsRefused}
use Rattle.job_files.specs.JobTable.{IsTableOfJob}
use Rattle.job_files.specs.Stops.{IsJobFile, IsNextOf}
use Rattle.program_reader.specs.declared.program.Program.{Program}
use Rattle.program_table.specs.Table.{IsTableOf}
use Rattle.rate_fit.specs.declared.verdict.Verdict.{Verdict}
use Rattle.rate_fit.specs.Fit.{AreVerdicts, IsGreatestFit}
use Rattle.shelf_io.specs.Files.{Files, Lacks}
use Rattle.slot_rule.specs.Schedule.{IsScheduled}
use Rattle.version_table.specs.declared.table.Table.{Table}
use Rattle.version_table.specs.Choice.{IsSmallestChoice}
use Rattle.version_table.specs.Table.{greatest}
use Rattle.command_words.specs.declared.status.Status.{Status}
use Rattle.command_words.specs.declared.status.Status.TheVariants.{Ok, JobRefused, SourceRefused, Missing, NoFit}
use Rattle.command_words.specs.declared.status.JobRefusal.TheVariants.{JobSyntax, JobField, JobLimit, ListSyntax}
use Rattle.command_words.specs.declared.command.FitFiles.{FitFiles}
use Rattle.command_words.specs.Held.{HoldsText}
use Rattle.command_words.specs.Task.{Task}
use Rattle.fit_command.specs.declared.limits.TheConstants.{LIST_BYTES_MOST}
use Rattle.fit_command.specs.ListText.{IsListRefused, IsListText}
use Rattle.fit_command.specs.Report.{slot_reports}

-- the files that `fit` names itself
abbrev pub files_of_fit : (job list : List ℕ) → List (List ℕ)
files_of_fit job list = job ∷ list ∷ []

-- the same job with another slot
abbrev pub job_in : (slot : ℕ) → Job → Job
job_in slot job =
    record { slot = slot; start = job.start; stream_id = job.stream_id; nodes = job.nodes; evaluations = job.evaluations; programs = job.programs }

-- LIST holds the list of these slots
pub record HoldsList (told : Option Files) (list : List ℕ) (slots : List ℕ) : Type 0 where
  pub text : List ℕ
  pub held : HoldsText told list text
  pub is_list : IsListText text slots

-- JOB holds this job, and LIST these slots
pub record HoldsAsked (told : Option Files) (name list : List ℕ) (job : Job) (slots : List ℕ) : Type 0 where
  pub job_is : HoldsJob told name (files_of_fit name list) job
  pub slots_are : HoldsList told list slots

-- the job of JOB in the longest of the slots of LIST has these programs, and this table
pub record IsAskedTable (told : Option Files) (name list : List ℕ) (job : Job) (slots : List ℕ) (made : JobTable) : Type 0 where
  pub asked : HoldsAsked told name list job slots
  pub table : IsTableOfJob told (job_in (greatest slots) job) made

-- the next file that `fit` reads: JOB; LIST, behind a job; or that of a program, behind both
abbrev pub IsNextFitFile : Option Files → (name list : List ℕ) → (file : List ℕ) → Type 0
IsNextFitFile told name list file =
    (file ≡ name)
    ⊎ (((job : Job) × HoldsJob told name (files_of_fit name list) job × (file ≡ list))
    ⊎ ((job : Job) × (slots : List ℕ) × HoldsAsked told name list job slots × IsNextOf told (job_in (greatest slots) job) file))

-- what JOB, LIST and the files that the job names hold calls for this status
abbrev pub FitCallsFor : (name list : List ℕ) → Option Files → Status → Type 0
FitCallsFor name list told Ok =
    (job : Job) × (slots : List ℕ) × (made : JobTable) × (fit : ℕ) × IsAskedTable told name list job slots made × IsGreatestFit made.table slots (Some fit)
FitCallsFor name list told NoFit =
    (job : Job) × (slots : List ℕ) × (made : JobTable) × IsAskedTable told name list job slots made × IsGreatestFit made.table slots None
FitCallsFor name list told (JobRefused JobSyntax) = HoldsRefused told name (files_of_fit name list) NoDocument
FitCallsFor name list told (JobRefused (JobField field)) = HoldsRefused told name (files_of_fit name list) (Field field)
FitCallsFor name list told (JobRefused (JobLimit field)) = HoldsRefused told name (files_of_fit name list) (Limit field)
FitCallsFor name list told (JobRefused (ListSyntax line)) =
    (job : Job) × (text : List ℕ) × HoldsJob told name (files_of_fit name list) job × HoldsText told list text × IsListRefused text line
FitCallsFor name list told (SourceRefused fault) =
    (job : Job) × (slots : List ℕ) × HoldsAsked told name list job slots × IsRefusedOn told (job_in (greatest slots) job) fault
FitCallsFor name list told Missing = (file : List ℕ) × IsNextFitFile told name list file × Lacks told file
FitCallsFor name list told status = ⊥

-- the programs of a job in slots of so many ticks are read from the same files, and the smallest choice of their table is scheduled: so a run of this
-- job isn't refused for a program, nor as unschedulable
abbrev pub RunsIn : Option Files → (slot : ℕ) → Job → Type 0
RunsIn told slot job =
    (programs : List Program) × (table : Table) × AreProgramsOn told (job_in slot job) programs × IsTableOf (job_in slot job) programs table
    × ((choice : List ℕ) → IsSmallestChoice table choice → IsScheduled table choice)

-- the line prints the verdicts on the slots of LIST, and the greatest slot in which the job fits, where a run of it is scheduled
abbrev pub TellsFit : (name list : List ℕ) → Option Files → (line : List ℕ) → Type 0
TellsFit name list told line =
    (job : Job) × (slots : List ℕ) × (made : JobTable) × (verdicts : List Verdict) × (fit : ℕ)
    × IsAskedTable told name list job slots made × AreVerdicts made.table slots verdicts × IsGreatestFit made.table slots (Some fit) × RunsIn told fit job
    × (line ≡ report_line (reports.Fit fit (slot_reports slots verdicts)))

-- the job fits in none of the slots of LIST, and these are reported with their verdicts
abbrev pub FitsNone : (name list : List ℕ) → Option Files → List SlotVerdict → Type 0
FitsNone name list told reported =
    (job : Job) × (slots : List ℕ) × (made : JobTable) × (verdicts : List Verdict)
    × IsAskedTable told name list job slots made × AreVerdicts made.table slots verdicts × IsGreatestFit made.table slots None
    × (reported ≡ slot_reports slots verdicts)

-- the line prints the verdicts and the greatest slot, and every file stays
abbrev pub FitDone : (name list : List ℕ) → Files → (line : List ℕ) → (after : Files) → Type 0
FitDone name list files line after = TellsFit name list (Some files) line × (after ≡ files)

-- `fit` may refuse the job, the list and a program
abbrev pub FitMayRefuse : Status → Type 0
FitMayRefuse (JobRefused JobSyntax) = Unit {0}
FitMayRefuse (JobRefused (JobField field)) = Unit {0}
FitMayRefuse (JobRefused (JobLimit field)) = Unit {0}
FitMayRefuse (JobRefused (ListSyntax line)) = Unit {0}
FitMayRefuse (SourceRefused fault) = Unit {0}
FitMayRefuse status = ⊥

-- `fit` reads what the job in JOB is read from, and LIST, up to one byte past the limit of lists
abbrev pub FitReads : (name list : List ℕ) → Option Files → (file : List ℕ) → (limit : ℕ) → Type 0
FitReads name list told file limit = IsJobFile told name (files_of_fit name list) file limit ⊎ ((file ≡ list) × (limit ≡ LIST_BYTES_MOST))

-- what `fit` has to do: it changes no file
abbrev pub fit_task : (name list : List ℕ) → Task
fit_task name list = record {
  calls_for = FitCallsFor name list;
  may_refuse = FitMayRefuse;
  tells_work = TellsFit name list;
  fits_none = FitsNone name list;
  is_done = FitDone name list;
  leaves = λ files after. after ≡ files;
  reads = FitReads name list;
  writes = λ name. ⊥;
}

-- that of the files that are named
abbrev pub fit_task_of : FitFiles → Task
fit_task_of files = fit_task files.job.now files.list.now
