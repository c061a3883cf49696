-- The table text: its one spelling, and what else a text can be.
use Rattle.std.specs.Prelude.{◌≡◌, ◌≢◌, ℕ, ◌+◌, ◌<◌, ◌≤◌, ◌⊎◌, List, [], ◌++◌, length, Result, Ok, Err}
use Rattle.std.specs.List.{flat_map}
use Rattle.version_table.specs.declared.limits.TheConstants.{TABLE_TEXT_MOST, TEXT_AUDIO_PACKETS_MOST}
use Rattle.version_table.specs.declared.fault.Limit.{Limit}
use Rattle.version_table.specs.declared.fault.Limit.TheVariants as limits
use Rattle.version_table.specs.declared.fault.TableFault.{TableFault}
use Rattle.version_table.specs.declared.fault.TableFault.TheVariants.{TableSyntax, TableLimit, OutOfMemory}
use Rattle.version_table.specs.declared.line.Line.{Line}
use Rattle.version_table.specs.declared.table.Table.{Table}
use Rattle.version_table.specs.Table.{IsValidTable, audio_packets_of}
use Rattle.version_table.specs.Lines.{text_of_line, lines_of_table}
use Rattle.version_table.specs.Order.{LineMayStand, IsOpening, IsForm}
use Rattle.version_table.specs.Limits.{limit_name, BreakFirst}

-- lines one behind the other
abbrev pub text_of_lines : List Line → List ℕ
text_of_lines lines = flat_map text_of_line lines

-- the one spelling of a table
abbrev pub table_spelling : Table → List ℕ
table_spelling table = text_of_lines (lines_of_table table)

-- a table that a text may hold
pub record IsTextTable (table : Table) : Type 0 where
  pub valid : IsValidTable table
  pub few_packets : length (audio_packets_of table) ≤ TEXT_AUDIO_PACKETS_MOST
  pub short : length (table_spelling table) ≤ TABLE_TEXT_MOST

-- line n, counted from 1, is the first that no table has there: no line that may stand behind those before it comes,
-- and it isn't that the text ends as a table's may
pub record IsTableSyntaxRefusal (text : List ℕ) (n : ℕ) : Type 0 where
  pub before : List Line
  pub rest : List ℕ
  pub parts : text ≡ text_of_lines before ++ rest
  pub opening : IsOpening before
  pub number : n ≡ length before + 1
  pub no_line : (line : Line) (more : List ℕ) → LineMayStand before line → rest ≢ text_of_line line ++ more
  pub owed : IsForm before → rest ≢ []

-- the text has the form of a table, and this is the first limit that it breaks
pub record IsLimitRefusal (text : List ℕ) (limit : Limit) : Type 0 where
  pub lines : List Line
  pub spelled : text ≡ text_of_lines lines
  pub form : IsForm lines
  pub first : BreakFirst lines limit

-- what a text can be: that of a table, or refused in a line, or for a limit
pub data TextReading : Type 0 where
  Holds : Table → TextReading
  RefusedAt : ℕ → TextReading
  RefusedFor : Limit → TextReading

-- a text is read so; one that is too long is refused for its bytes before all else
abbrev pub IsTableRead : List ℕ → TextReading → Type 0
IsTableRead text (Holds table) = (length text ≤ TABLE_TEXT_MOST) × IsTextTable table × (text ≡ table_spelling table)
IsTableRead text (RefusedAt n) = (length text ≤ TABLE_TEXT_MOST) × IsTableSyntaxRefusal text n
IsTableRead text (RefusedFor limit) = ((TABLE_TEXT_MOST < length text) × (limit ≡ limits.Bytes)) ⊎ ((length text ≤ TABLE_TEXT_MOST) × IsLimitRefusal text limit)

-- a fault is a reading of the text, or want of memory
abbrev pub IsFaultOf : List ℕ → TableFault → Type 0
IsFaultOf text (TableSyntax n) = IsTableRead text (RefusedAt n)
IsFaultOf text (TableLimit name) = (limit : Limit) × IsTableRead text (RefusedFor limit) × (name.bytes ≡ limit_name limit)
IsFaultOf text OutOfMemory = Unit {0}

-- an answer is this reading, unless memory was wanted
abbrev pub Says : Result Table TableFault → TextReading → Type 0
Says (Ok table) (Holds other) = table ≡ other
Says (Err (TableSyntax n)) (RefusedAt m) = n ≡ m
Says (Err (TableLimit name)) (RefusedFor limit) = name.bytes ≡ limit_name limit
Says (Err OutOfMemory) reading = Unit {0}
Says answer reading = ⊥
