-- What `plan TABLE CERT` does.
use Rattle.std.specs.Prelude.{◌≡◌, ℕ, ◌≤◌, ◌⊎◌, List, length, take, Option, Some}
use Rattle.std.specs.FinMap.{insert}
use Rattle.bound_certificate.specs.declared.cert.Cert.{Cert}
use Rattle.bound_certificate.specs.Spelling.{cert_spelling}
use Rattle.job_report.specs.Report.{report_line}
use Rattle.shelf_io.specs.Files.{Files, Lacks}
use Rattle.version_table.specs.declared.limits.TheConstants.{TABLE_TEXT_MOST}
use Rattle.version_table.specs.declared.table.Table.{Table}
use Rattle.version_table.specs.declared.fault.Limit.{Limit}
use Rattle.version_table.specs.Choice.{IsSmallestChoice}
use Rattle.version_table.specs.Limits.{limit_name}
use Rattle.version_table.specs.Text.{IsTableRead, Holds, RefusedAt, RefusedFor}
use Rattle.slot_rule.specs.Schedule.{IsScheduled, IsFirstMiss}
use Rattle.command_words.specs.declared.status.Status.{Status}
use Rattle.command_words.specs.declared.status.Status.TheVariants.{Ok, JobRefused, Unschedulable, Missing}
use Rattle.command_words.specs.declared.status.JobRefusal.{JobRefusal}
use Rattle.command_words.specs.declared.status.JobRefusal.TheVariants.{TableSyntax, TableLimit}
use Rattle.command_words.specs.Held.{HoldsText}
use Rattle.command_words.specs.declared.command.PlanFiles.{PlanFiles}
use Rattle.command_words.specs.Task.{Task}
use Rattle.plan_command.specs.Plan.{IsPlan}
use Rattle.plan_command.specs.Report.{plan_report}

-- a text is that of this table, and a file holds it, where files are told
pub record HoldsTable (told : Option Files) (name : List ℕ) (table : Table) : Type 0 where
  pub text : List ℕ
  pub held : HoldsText told name text
  pub read : IsTableRead text (Holds table)

-- this is a plan of the table that a file holds
pub record HasPlan (told : Option Files) (name : List ℕ) (plan : Cert) : Type 0 where
  pub table : Table
  pub holds : HoldsTable told name table
  pub is_plan : IsPlan table plan

-- a text is refused so
abbrev pub IsTableRefused : List ℕ → JobRefusal → Type 0
IsTableRefused text (TableSyntax n) = IsTableRead text (RefusedAt n)
IsTableRefused text (TableLimit name) = (limit : Limit) × IsTableRead text (RefusedFor limit) × (name.bytes ≡ limit_name limit)
IsTableRefused text refusal = ⊥

-- what TABLE holds calls for this status
abbrev pub PlanCallsFor : (table : List ℕ) → Option Files → Status → Type 0
PlanCallsFor name told Ok =
    (table : Table) × HoldsTable told name table × ((choice : List ℕ) → IsSmallestChoice table choice → IsScheduled table choice)
PlanCallsFor name told (JobRefused refusal) = (text : List ℕ) × HoldsText told name text × IsTableRefused text refusal
PlanCallsFor name told (Unschedulable miss) =
    (table : Table) × (choice : List ℕ) × HoldsTable told name table × IsSmallestChoice table choice × IsFirstMiss table choice miss
PlanCallsFor name told Missing = Lacks told name
PlanCallsFor name told status = ⊥

-- `plan` may refuse the text of a table, and miss
abbrev pub PlanMayRefuse : Status → Type 0
PlanMayRefuse (JobRefused (TableSyntax n)) = Unit {0}
PlanMayRefuse (JobRefused (TableLimit name)) = Unit {0}
PlanMayRefuse (Unschedulable miss) = Unit {0}
PlanMayRefuse status = ⊥

-- the line prints the values of a plan of the table in TABLE
abbrev pub TellsPlan : (table : List ℕ) → Option Files → (line : List ℕ) → Type 0
TellsPlan table told line = (plan : Cert) × HasPlan told table plan × (line ≡ report_line (plan_report plan))

-- CERT holds the certificate of a plan of the table in TABLE, whose values the line prints, and every other file stays
abbrev pub PlanDone : (table certificate : List ℕ) → Files → (line : List ℕ) → (after : Files) → Type 0
PlanDone table certificate files line after =
    (plan : Cert) × HasPlan (Some files) table plan × (line ≡ report_line (plan_report plan))
    × (after ≡ insert files certificate (cert_spelling plan))

-- files are as they were, or CERT holds a front of the certificate of a plan of the table in TABLE, and every other file stays
abbrev pub PlanLeaves : (table certificate : List ℕ) → Files → (after : Files) → Type 0
PlanLeaves table certificate files after =
    (after ≡ files)
    ⊎ ((plan : Cert) × HasPlan (Some files) table plan × (k : ℕ) × (k ≤ length (cert_spelling plan))
    × (after ≡ insert files certificate (take k (cert_spelling plan))))

-- what `plan` has to do: it reads TABLE, up to one byte past the limit of table texts, and writes CERT
abbrev pub plan_task : (table certificate : List ℕ) → Task
plan_task table certificate = record {
  calls_for = PlanCallsFor table;
  may_refuse = PlanMayRefuse;
  tells_work = TellsPlan table;
  fits_none = λ told slots. ⊥;
  is_done = PlanDone table certificate;
  leaves = PlanLeaves table certificate;
  reads = λ told name limit. (name ≡ table) × (limit ≡ TABLE_TEXT_MOST);
  writes = λ name. name ≡ certificate;
}

-- that of the files that are named
abbrev pub plan_task_of : PlanFiles → Task
plan_task_of files = plan_task files.table.now files.certificate.now
