-- What `probe` leaves, `plan` reads.
use Rattle.std.proofs.Common.{ℕ, List, Some, ◌∙◌}
use Rattle.shelf_io.specs.Files.{Files}
use Rattle.program_reader.specs.declared.program.Program.{Program}
use Rattle.version_table.specs.declared.table.Table.{Table}
use Rattle.version_table.specs.Text.{Holds, IsTableRead, IsTextTable, table_spelling}
use Rattle.command_words.specs.declared.status.JobRefusal.{JobRefusal}
use Rattle.command_words.specs.declared.status.Status.TheVariants.{JobRefused}
use Rattle.plan_command.specs.PlanCommand.{HoldsTable, PlanCallsFor}
use Rattle.probe_command.specs.ProbeCommand.{HoldsProbed, IsProbedTable, ProbeDone}
use Rattle.command_words.proofs.Contents.{get_own, stays}
use Rattle.plan_command.proofs.OneStatus.{OneReading, table_or_refusal}

-- the law that the spelling of a table is read as that table
abbrev pub SpellingIsRead : Type 0
SpellingIsRead = (table : Table) → IsTextTable table → IsTableRead (table_spelling table) (Holds table)

-- TABLE holds the text of the program's table
pub probed_is_read : SpellingIsRead → (file : List ℕ) (number : ℕ) (name : List ℕ) (files after : Files) (line : List ℕ) → ProbeDone file number name files line after
    → (program : Program) × (table : Table) × HoldsProbed (Some files) file number program × IsProbedTable program table × HoldsTable (Some after) name table
probed_is_read law file number name files after line (program, made, has, said, written) = (
  program,
  made,
  has.holds,
  has.is_table,
  record { text = table_spelling made; held = stays _ after name written ∙ get_own files name (table_spelling made); read = law made has.is_text },
)

-- so no text is refused
pub probed_is_taken : SpellingIsRead → OneReading → (file : List ℕ) (number : ℕ) (name : List ℕ) (files after : Files) (line : List ℕ) (refusal : JobRefusal)
    → ProbeDone file number name files line after → PlanCallsFor name (Some after) (JobRefused refusal) → ⊥
probed_is_taken law reading file number name files after line refusal done refused =
    let (program, made, holds, is_table, read) = probed_is_read law file number name files after line done in
    table_or_refusal reading after name made refusal read refused
