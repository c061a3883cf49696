-- The units of a table in the order of their due times.
use Rattle.std.specs.Prelude.{◌≡◌, ℕ, ◌<◌, ◌≤◌, List, [], length, map, drop, All, slice_index_or}
use Rattle.std.specs.List.{flat_map, range_with_len}
use Rattle.std.specs.List.Sorted.{IsNonDecreasingBy, IsPermutation}
use Rattle.version_table.specs.declared.table.Unit.{Unit as CodedUnit}
use Rattle.version_table.specs.declared.table.ProgramRow.{ProgramRow}
use Rattle.version_table.specs.declared.table.Table.{Table}
use Rattle.version_table.specs.Table.{units_of}
use Rattle.certificate_checker.specs.declared.order.DueUnit.{DueUnit}

-- a unit without versions, which stands behind the last
abbrev pub no_unit : CodedUnit
no_unit = record { due = 0; versions = record { items = [] } }

-- a unit of a table by its number over all programs
abbrev pub unit_of : Table → (unit : ℕ) → CodedUnit
unit_of table unit = slice_index_or (units_of table) unit no_unit

-- a program of a table
abbrev pub program_of : Table → (program : ℕ) → ProgramRow
program_of table program = slice_index_or table.programs program (record { vbv = 0; units = []; audios = [] })

-- the units of the programs from this one on
abbrev pub units_behind : Table → (program : ℕ) → List CodedUnit
units_behind table program = flat_map (λ row. row.units) (drop program table.programs)

-- the unit of this number stands at this place, and is due then
pub record IsPlaced (table : Table) (at : DueUnit) : Type 0 where
  pub number : at.unit < length (units_of table)
  pub due : at.due ≡ (unit_of table at.unit).due
  pub program : at.program < length table.programs
  pub place : at.place < length (program_of table at.program).units
  pub same : slice_index_or (program_of table at.program).units at.place no_unit ≡ unit_of table at.unit

-- the units of a table, each once, none due later than the next
pub record IsDueOrder (table : Table) (order : List DueUnit) : Type 0 where
  pub rising : IsNonDecreasingBy (λ at. at.due) order
  pub placed : All (IsPlaced table) order
  pub each : IsPermutation (range_with_len 0 (length (units_of table))) (map (λ at. at.unit) order)

-- the first units of a table, and these are the others
pub record IsFilled (table : Table) (others : List CodedUnit) (order : List DueUnit) : Type 0 where
  pub others_are : drop (length order) (units_of table) ≡ others
  pub within : length order ≤ length (units_of table)
  pub placed : All (IsPlaced table) order
  pub numbers : map (λ at. at.unit) order ≡ range_with_len 0 (length order)
