-- What `impossible TABLE` does.
use Rattle.std.specs.Prelude.{◌≡◌, ℕ, List, Option, Some}
use Rattle.job_report.specs.Report.{report_line}
use Rattle.job_report.specs.declared.report.Report.{Report}
use Rattle.shelf_io.specs.Files.{Files, Lacks}
use Rattle.version_table.specs.declared.limits.TheConstants.{TABLE_TEXT_MOST}
use Rattle.version_table.specs.declared.table.Table.{Table}
use Rattle.command_words.specs.declared.status.Status.{Status}
use Rattle.command_words.specs.declared.status.Status.TheVariants.{Ok, JobRefused, Missing}
use Rattle.command_words.specs.declared.status.JobRefusal.TheVariants.{TableSyntax, TableLimit}
use Rattle.command_words.specs.Held.{HoldsText}
use Rattle.command_words.specs.declared.command.ImpossibleFiles.{ImpossibleFiles}
use Rattle.command_words.specs.Task.{Task}
use Rattle.plan_command.specs.PlanCommand.{HoldsTable, IsTableRefused}
use Rattle.impossible_command.specs.Verdict.{IsVerdict}

-- what TABLE holds calls for this status
abbrev pub ImpossibleCallsFor : (table : List ℕ) → Option Files → Status → Type 0
ImpossibleCallsFor name told Ok = (table : Table) × HoldsTable told name table
ImpossibleCallsFor name told (JobRefused refusal) = (text : List ℕ) × HoldsText told name text × IsTableRefused text refusal
ImpossibleCallsFor name told Missing = Lacks told name
ImpossibleCallsFor name told status = ⊥

-- the line prints the verdict on the table in TABLE
abbrev pub TellsVerdict : (table : List ℕ) → Option Files → (line : List ℕ) → Type 0
TellsVerdict name told line = (table : Table) × HoldsTable told name table × (report : Report) × IsVerdict table report × (line ≡ report_line report)

-- the line prints the verdict on the table in TABLE, and every file stays
abbrev pub ImpossibleDone : (table : List ℕ) → Files → (line : List ℕ) → (after : Files) → Type 0
ImpossibleDone name files line after = TellsVerdict name (Some files) line × (after ≡ files)

-- `impossible` may refuse the text of a table
abbrev pub ImpossibleMayRefuse : Status → Type 0
ImpossibleMayRefuse (JobRefused (TableSyntax n)) = Unit {0}
ImpossibleMayRefuse (JobRefused (TableLimit name)) = Unit {0}
ImpossibleMayRefuse status = ⊥

-- what `impossible` has to do: it reads TABLE, up to one byte past the limit of table texts, and changes no file
abbrev pub impossible_task : (table : List ℕ) → Task
impossible_task table = record {
  calls_for = ImpossibleCallsFor table;
  may_refuse = ImpossibleMayRefuse;
  tells_work = TellsVerdict table;
  fits_none = λ told slots. ⊥;
  is_done = ImpossibleDone table;
  leaves = λ files after. after ≡ files;
  reads = λ told name limit. (name ≡ table) × (limit ≡ TABLE_TEXT_MOST);
  writes = λ name. ⊥;
}

-- that of the file that is named
abbrev pub impossible_task_of : ImpossibleFiles → Task
impossible_task_of files = impossible_task files.table.now
