-- What a window charges for the units of a choice, in bytes.
use Rattle.std.specs.Prelude.{ℕ, ◌+◌, ◌*◌, ◌≤◌, nat_le, if◌then◌else◌, List, [], ◌∷◌, ◌++◌, map, sum_by}
use Rattle.std.specs.List.{zip}
use Rattle.std.specs.Int.{div_ceil}
use Rattle.stream_constants.specs.declared.decoder.TheConstants.{EB_UNIT_BYTES}
use Rattle.stream_constants.specs.declared.packets.TheConstants.{PAYLOAD_BYTES}
use Rattle.version_table.specs.declared.table.Unit.{Unit as CodedUnit}
use Rattle.version_table.specs.declared.table.ProgramRow.{ProgramRow}
use Rattle.version_table.specs.declared.table.Table.{Table}
use Rattle.version_table.specs.Choice.{version_at}
use Rattle.buffer_windows.specs.declared.windows.BufferWindow.{BufferWindow}
use Rattle.buffer_windows.specs.Windows.{is_fresh, is_held, stop}

-- what a version of so many bytes of a unit of the program is charged: whole packets where the unit's slots lie in the window,
-- else, where its slots are behind the tail or its bytes may be held before the first slot, its bytes
abbrev pub charged_bytes : (slot : ℕ) → BufferWindow → (program due bytes : ℕ) → ℕ
charged_bytes slot window program due bytes =
    if nat_le due window.due then
    if is_fresh slot window due then
    if nat_le (stop slot due) window.tail then PAYLOAD_BYTES * div_ceil bytes PAYLOAD_BYTES else bytes
    else if is_held slot window program due then bytes else 0
    else 0

-- a unit, with its program's number and the size of the program's elementary buffer in units of 2,048 bytes
pub record OwnedUnit : Type 0 where
  pub program : ℕ
  pub vbv : ℕ
  pub unit : CodedUnit

-- the units of these programs, of which the first has this number
abbrev pub owned_from : (program : ℕ) → List ProgramRow → List OwnedUnit
owned_from program [] = []
owned_from program (row ∷ rows) = map (λ unit. record { program = program; vbv = row.vbv; unit = unit }) row.units ++ owned_from (program + 1) rows

-- the units of a table, in program order
abbrev pub owned_units : Table → List OwnedUnit
owned_units table = owned_from 0 table.programs

-- what the units of a choice are charged together
abbrev pub charges : Table → (choice : List ℕ) → BufferWindow → ℕ
charges table choice window =
    sum_by (λ (owned, k). charged_bytes table.slot window owned.program owned.unit.due (version_at owned.unit k).bytes) (zip (owned_units table) choice)

-- version k of the unit has no more bytes than its program's elementary buffer
abbrev pub FitsBuffer : OwnedUnit → ℕ → Type 0
FitsBuffer owned k = (version_at owned.unit k).bytes ≤ EB_UNIT_BYTES * owned.vbv
