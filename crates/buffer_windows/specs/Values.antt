-- The value of some windows that see the buffers: what the units cost at least where bytes are charged, less what the windows' room is
-- worth. A window's lambda is its price of a byte; costs and values are in 1/47,104 of a distortion, 256 parts for each byte of a packet's payload.
use Rattle.std.specs.Prelude.{ℕ, ◌+◌, ◌*◌, nat_le, List, [], ◌∷◌, map, filter, sum_by, fold, Option, Some, None, ℤ, pos, ◌+ℤ◌, ◌-ℤ◌, ◌*ℤ◌}
use Rattle.std.specs.List.{zip}
use Rattle.stream_constants.specs.declared.decoder.TheConstants.{EB_UNIT_BYTES}
use Rattle.stream_constants.specs.declared.packets.TheConstants.{PAYLOAD_BYTES}
use Rattle.version_table.specs.declared.table.Version.{Version}
use Rattle.version_table.specs.declared.table.Table.{Table}
use Rattle.version_table.specs.Choice.{least, version_at}
use Rattle.dual_bounds.specs.declared.constants.TheConstants.{DISTORTION_PARTS}
use Rattle.buffer_windows.specs.declared.windows.BufferWindow.{BufferWindow}
use Rattle.buffer_windows.specs.Charges.{OwnedUnit, charged_bytes, owned_units}
use Rattle.buffer_windows.specs.Room.{buffer_room}

-- the parts of a distortion
abbrev pub byte_parts : ℕ
byte_parts = DISTORTION_PARTS * PAYLOAD_BYTES

-- the versions that may be chosen of a unit: the one that is fixed, or those that its program's elementary buffer holds
abbrev pub versions_left : OwnedUnit → Option ℕ → List Version
versions_left owned None = filter (λ version. nat_le version.bytes (EB_UNIT_BYTES * owned.vbv)) owned.unit.versions.items
versions_left owned (Some k) = version_at owned.unit k ∷ []

-- what a version of a unit is charged by all windows: the sum of each lambda times the bytes that the window charges
unfoldable pub version_price : (slot : ℕ) → List BufferWindow → OwnedUnit → Version → ℕ
version_price slot windows owned version = sum_by (λ window. window.lambda * charged_bytes slot window owned.program owned.unit.due version.bytes) windows

-- what a version of a unit costs
abbrev pub version_cost : (slot : ℕ) → List BufferWindow → OwnedUnit → Version → ℕ
version_cost slot windows owned version = byte_parts * version.distortion + version_price slot windows owned version

-- what a unit costs at least, over its versions that may be chosen
unfoldable pub least_owned_cost : (slot : ℕ) → List BufferWindow → OwnedUnit → Option ℕ → ℕ
least_owned_cost slot windows owned fixed = least (map (version_cost slot windows owned) (versions_left owned fixed))

-- what these units cost at least together
unfoldable pub least_owned_costs : (slot : ℕ) → List BufferWindow → List OwnedUnit → List (Option ℕ) → ℕ
least_owned_costs slot windows units fixed = sum_by (λ (owned, entry). least_owned_cost slot windows owned entry) (zip units fixed)

-- what the room of the windows is worth: the sum of each lambda times the window's room
unfoldable pub buffer_worth : Table → List BufferWindow → ℤ
buffer_worth table windows = fold ◌+ℤ◌ (pos 0) (map (λ window. pos window.lambda *ℤ buffer_room table window) windows)

-- the value of some windows where these versions are fixed
unfoldable pub value_of_buffer_windows : Table → List (Option ℕ) → List BufferWindow → ℤ
value_of_buffer_windows table fixed windows = pos (least_owned_costs table.slot windows (owned_units table) fixed) -ℤ buffer_worth table windows
