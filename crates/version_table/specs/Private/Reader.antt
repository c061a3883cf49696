-- What the private reader of a table text knows of the lines that it read.
use Rattle.std.specs.Prelude.{◌≡◌, ◌+◌, List, Option, Some, None, MatchOption, MatchBool, Result, Ok, Err}
use Rattle.version_table.specs.declared.fault.Limit.{Limit}
use Rattle.version_table.specs.declared.fault.TableFault.{TableFault}
use Rattle.version_table.specs.declared.fault.TableFault.TheVariants.{TableSyntax, TableLimit, OutOfMemory}
use Rattle.version_table.specs.declared.line.Line.{Line}
use Rattle.version_table.specs.declared.read.Reader.{Reader}
use Rattle.version_table.specs.declared.table.Table.{Table}
use Rattle.version_table.specs.Lines.{lines_of_table}
use Rattle.version_table.specs.Limits.{limit_name, first_limit}
use Rattle.version_table.specs.Private.Draft.{stage_after, is_whole, lines_of_draft, AddsLine}

-- a fault names a limit
abbrev pub IsLimitFault : TableFault → Limit → Type 0
IsLimitFault (TableLimit name) limit = name.bytes ≡ limit_name limit
IsLimitFault fault limit = ⊥

-- the new reader knows of the first limit broken, and has one line more where none is
abbrev pub TestsLine : Option Limit → Reader → Line → Reader → Type 0
TestsLine (Some limit) old line new = new.limit ≡ Some limit
TestsLine None old line new =
    (new.limit ≡ first_limit (lines_of_draft old.stage old.draft) line) × (new.limit ≡ None → AddsLine old.stage old.draft line new.draft)

pub record KeepsLine (old : Reader) (line : Line) (new : Reader) : Type 0 where
  pub lines : new.lines ≡ old.lines
  pub stage : new.stage ≡ old.stage
  pub tested : TestsLine old.limit old line new

pub record TakesLine (old : Reader) (line : Line) (new : Reader) : Type 0 where
  pub lines : new.lines ≡ old.lines + 1
  pub stage : new.stage ≡ stage_after line
  pub tested : TestsLine old.limit old line new

-- want of memory, or the table of these lines
abbrev pub IsTableOf : List Line → Result Table TableFault → Type 0
IsTableOf lines (Ok table) = lines_of_table table ≡ lines
IsTableOf lines (Err fault) = fault ≡ OutOfMemory

abbrev pub IsRefusedFor : Limit → Result Table TableFault → Type 0
IsRefusedFor limit (Ok table) = ⊥
IsRefusedFor limit (Err fault) = IsLimitFault fault limit

-- the answer at the end of a text: a line that is owed, the first limit that was broken, or the table
abbrev pub Finishes : Reader → Result Table TableFault → Type 0
Finishes reader answer =
    MatchBool (is_whole reader.stage)
    (MatchOption reader.limit (IsTableOf (lines_of_draft reader.stage reader.draft) answer) (λ limit. IsRefusedFor limit answer))
    (answer ≡ Err (TableSyntax (reader.lines + 1)))
