-- What `probe FILE PROGRAM TABLE` does.
use Rattle.std.specs.Prelude.{◌≡◌, ℕ, ◌≤◌, ◌⊎◌, List, [], ◌∷◌, length, take, Option, Some}
use Rattle.std.specs.FinMap.{insert}
use Rattle.job_programs.specs.Told.{IsProbedOn, IsProbeRefusedOn}
use Rattle.job_report.specs.declared.limits.TheConstants.{COARSER_DEFAULT, DRIFT_DEFAULT, EVALUATIONS_DEFAULT, NODES_DEFAULT, PROBE_SLOT, START_DEFAULT, WEIGHT_DEFAULT}
use Rattle.job_report.specs.Report.{report_line}
use Rattle.program_reader.specs.declared.limits.TheConstants.{FILE_BYTES_MOST}
use Rattle.program_reader.specs.declared.program.Program.{Program}
use Rattle.program_table.specs.Table.{IsRowOf}
use Rattle.shelf_io.specs.Files.{Files, Lacks}
use Rattle.version_table.specs.declared.table.ProgramRow.{ProgramRow}
use Rattle.version_table.specs.declared.table.Table.{Table}
use Rattle.version_table.specs.Text.{IsTextTable, table_spelling}
use Rattle.command_words.specs.declared.status.Status.{Status}
use Rattle.command_words.specs.declared.status.Status.TheVariants.{Ok, SourceRefused, Missing}
use Rattle.command_words.specs.declared.command.ProbeWords.{ProbeWords}
use Rattle.command_words.specs.Task.{Task}
use Rattle.probe_command.specs.Report.{probe_report}

-- a file holds this program of a number, where files are told, as it is probed: in slots of `PROBE_SLOT` ticks, with the start of a job that says nothing, and no PID dropped
abbrev pub HoldsProbed : Option Files → (file : List ℕ) → (number : ℕ) → Program → Type 0
HoldsProbed told file number program = IsProbedOn told file PROBE_SLOT START_DEFAULT number [] program

-- The table of a program that is probed: slots of `PROBE_SLOT` ticks, the nodes and evaluations of a job that says nothing, and the
-- program alone, in the versions and with the weight that such a job gives it, without drift.
pub record IsProbedTable (program : Program) (table : Table) : Type 0 where
  pub slot : table.slot ≡ PROBE_SLOT
  pub nodes : table.nodes ≡ NODES_DEFAULT
  pub evaluations : table.evaluations ≡ EVALUATIONS_DEFAULT
  pub row : ProgramRow
  pub is_row : IsRowOf program COARSER_DEFAULT WEIGHT_DEFAULT DRIFT_DEFAULT row
  pub alone : table.programs ≡ row ∷ []

-- a file holds this program of a number, this is its table, and a text may hold that
pub record HasProbed (told : Option Files) (file : List ℕ) (number : ℕ) (program : Program) (made : Table) : Type 0 where
  pub holds : HoldsProbed told file number program
  pub is_table : IsProbedTable program made
  pub is_text : IsTextTable made

-- what FILE holds calls for this status: it holds a program of the number, or is refused, or isn't there
abbrev pub ProbeCallsFor : (file : List ℕ) → (number : ℕ) → Option Files → Status → Type 0
ProbeCallsFor file number told Ok = (program : Program) × HoldsProbed told file number program
ProbeCallsFor file number told (SourceRefused fault) = IsProbeRefusedOn told file PROBE_SLOT START_DEFAULT number [] fault
ProbeCallsFor file number told Missing = Lacks told file
ProbeCallsFor file number told status = ⊥

-- `probe` may refuse the program
abbrev pub ProbeMayRefuse : Status → Type 0
ProbeMayRefuse (SourceRefused fault) = Unit {0}
ProbeMayRefuse status = ⊥

-- the line counts packets and units of a program that FILE holds, whose table a text may hold
abbrev pub TellsProbed : (file : List ℕ) → (number : ℕ) → Option Files → (line : List ℕ) → Type 0
TellsProbed file number told line =
    (program : Program) × (made : Table) × HasProbed told file number program made × (line ≡ report_line (probe_report program))

-- TABLE holds the text of the table of FILE's program, whose packets and units the line counts, and every other file stays
abbrev pub ProbeDone : (file : List ℕ) → (number : ℕ) → (table : List ℕ) → Files → (line : List ℕ) → (after : Files) → Type 0
ProbeDone file number table files line after =
    (program : Program) × (made : Table) × HasProbed (Some files) file number program made × (line ≡ report_line (probe_report program))
    × (after ≡ insert files table (table_spelling made))

-- files are as they were, or TABLE holds a front of the text of the table of FILE's program, and every other file stays
abbrev pub ProbeLeaves : (file : List ℕ) → (number : ℕ) → (table : List ℕ) → Files → (after : Files) → Type 0
ProbeLeaves file number table files after =
    (after ≡ files)
    ⊎ ((program : Program) × (made : Table) × HasProbed (Some files) file number program made × (k : ℕ) × (k ≤ length (table_spelling made))
    × (after ≡ insert files table (take k (table_spelling made))))

-- what `probe` has to do: it reads FILE, up to one byte past the limit of files, and writes TABLE
abbrev pub probe_task : (file : List ℕ) → (number : ℕ) → (table : List ℕ) → Task
probe_task file number table = record {
  calls_for = ProbeCallsFor file number;
  may_refuse = ProbeMayRefuse;
  tells_work = TellsProbed file number;
  fits_none = λ told slots. ⊥;
  is_done = ProbeDone file number table;
  leaves = ProbeLeaves file number table;
  reads = λ told name limit. (name ≡ file) × (limit ≡ FILE_BYTES_MOST);
  writes = λ name. name ≡ table;
}

-- that of the words that were read
abbrev pub probe_task_of : ProbeWords → Task
probe_task_of words = probe_task words.file.now words.program words.table.now
