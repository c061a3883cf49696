-- The value of some windows, and of some multipliers: what the units cost at least where packets are charged, less what the
-- windows' room is worth. Values and lambdas are in 1/256 of a distortion,
-- times in ticks of 1/27,000,000 s.
use Rattle.std.specs.Prelude.{ℕ, ◌+◌, ◌*◌, List, map, sum_by, fold, if◌then◌else◌, Option, ℤ, pos, ◌+ℤ◌, ◌-ℤ◌, ◌*ℤ◌}
use Rattle.std.specs.List.{zip}
use Rattle.std.specs.Int.{div_ceil}
use Rattle.stream_constants.specs.declared.packets.TheConstants.{PAYLOAD_BYTES}
use Rattle.version_table.specs.declared.table.Version.{Version}
use Rattle.version_table.specs.declared.table.Unit.{Unit as CodedUnit}
use Rattle.version_table.specs.declared.table.Table.{Table}
use Rattle.version_table.specs.Choice.{least}
use Rattle.version_table.specs.Table.{units_of}
use Rattle.dual_bounds.specs.declared.constants.TheConstants.{DISTORTION_PARTS}
use Rattle.dual_bounds.specs.declared.windows.Multiplier.{Multiplier}
use Rattle.dual_bounds.specs.declared.windows.Window.{Window}
use Rattle.dual_bounds.specs.Fixed.{allowed}
use Rattle.dual_bounds.specs.Room.{is_within, room}

-- what a window charges for a packet that is due at a time
abbrev pub charge : (time : ℕ) → Window → ℕ
charge time window = if is_within window.from window.due time then window.lambda else 0

-- what a packet that is due at a time is charged: the sum of the lambdas of the windows that it is due in
unfoldable pub price : List Window → (time : ℕ) → ℕ
price windows time = sum_by (charge time) windows

-- how many packets carry a version: its bytes over the payload of a packet, rounded up
abbrev pub packet_count : Version → ℕ
packet_count version = div_ceil version.bytes PAYLOAD_BYTES

-- what a version costs at this price of a packet
abbrev pub cost : (price : ℕ) → Version → ℕ
cost price version = DISTORTION_PARTS * version.distortion + packet_count version * price

-- what a unit costs at least, over its versions that may be chosen
unfoldable pub least_cost : List Window → CodedUnit → Option ℕ → ℕ
least_cost windows unit fixed = least (map (cost (price windows unit.due)) (allowed unit fixed))

-- what these units cost at least together
unfoldable pub least_costs : List Window → List CodedUnit → List (Option ℕ) → ℕ
least_costs windows units fixed = sum_by (λ (unit, entry). least_cost windows unit entry) (zip units fixed)

-- what the room of the windows is worth: the sum of each lambda times the window's room
unfoldable pub worth : Table → List Window → ℤ
worth table windows = fold ◌+ℤ◌ (pos 0) (map (λ window. pos window.lambda *ℤ room table window.from window.due) windows)

-- the value of some windows where these versions are fixed
unfoldable pub value_of_windows : Table → List (Option ℕ) → List Window → ℤ
value_of_windows table fixed windows = pos (least_costs windows (units_of table) fixed) -ℤ worth table windows

-- a multiplier as a window, from time 0 on
abbrev pub from_start : Multiplier → Window
from_start multiplier = record { from = 0; due = multiplier.due; lambda = multiplier.lambda }

-- the value of some multipliers, as windows from time 0 on
unfoldable pub value_of_multipliers : Table → List (Option ℕ) → List Multiplier → ℤ
value_of_multipliers table fixed multipliers = value_of_windows table fixed (map from_start multipliers)
