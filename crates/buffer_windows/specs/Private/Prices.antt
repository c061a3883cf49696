-- What windows charge for the units of one program.
use Rattle.std.specs.Prelude.{ℕ, ◌+◌, ◌*◌, nat_lt, Bool, List, length, map, sum_by, min, Option, Some, None}
use Rattle.std.specs.List.{list_all, zip}
use Rattle.version_table.specs.declared.table.Unit.{Unit as CodedUnit}
use Rattle.version_table.specs.declared.table.Version.{Version}
use Rattle.buffer_windows.specs.declared.prices.Prices.{Prices}
use Rattle.buffer_windows.specs.declared.windows.BufferWindow.{BufferWindow}
use Rattle.buffer_windows.specs.Charged.{in_packets}
use Rattle.buffer_windows.specs.Charges.{OwnedUnit, charged_bytes as charge}
use Rattle.buffer_windows.specs.Values.{byte_parts, versions_left}

-- what some windows charge for so many bytes of a unit of the program that is due then
unfoldable pub charged_by : (slot : ℕ) → List BufferWindow → (program due bytes : ℕ) → ℕ
charged_by slot windows program due bytes = sum_by (λ window. window.lambda * charge slot window program due bytes) windows

-- what a version costs at these prices
abbrev pub cost_at : Prices → Version → ℕ
cost_at prices version = byte_parts * version.distortion + prices.bytes * version.bytes + prices.packets * in_packets version.bytes

-- the lesser of a number, where there is one, and another
abbrev pub lesser : Option ℕ → ℕ → ℕ
lesser None other = other
lesser (Some least) other = min least other

-- the units of one program
abbrev pub owned : (program vbv : ℕ) → List CodedUnit → List OwnedUnit
owned program vbv units = map (λ unit. record { program = program; vbv = vbv; unit = unit }) units

-- each of these units has a version that may be chosen
unfoldable pub all_have_left : List OwnedUnit → List (Option ℕ) → Bool
all_have_left units fixed = list_all (λ (owned, entry). nat_lt 0 (length (versions_left owned entry))) (zip units fixed)
