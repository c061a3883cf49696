-- The rate at which a window of time has room, as the longest slot that gives it. Times are ticks of 1/27,000,000 s.
use Rattle.std.specs.Prelude.{ℕ, ◌<◌, ◌≤◌, Option, Some, None, pos, ◌≤ℤ◌}
use Rattle.version_table.specs.declared.limits.TheConstants.{SLOT_LEAST}
use Rattle.version_table.specs.declared.table.Table.{Table}
use Rattle.dual_bounds.specs.Room.{room}

-- the same programs in slots of this many ticks
abbrev pub with_slot : Table → (slot : ℕ) → Table
with_slot table slot = record table { slot = slot }

-- in slots of this many ticks the window has room for so many packets
abbrev pub HasRoom : Table → (from due packets slot : ℕ) → Type 0
HasRoom table from due packets slot = pos packets ≤ℤ room (with_slot table slot) from due

-- the longest slot, from the shortest of all tables to the table's own, in which the window has room for so many packets; none where it has in none
abbrev pub IsLongestSlot : Table → (from due packets : ℕ) → Option ℕ → Type 0
IsLongestSlot table from due packets (Some slot) =
    (SLOT_LEAST ≤ slot) × (slot ≤ table.slot) × HasRoom table from due packets slot
    × ((longer : ℕ) → slot < longer → longer ≤ table.slot → HasRoom table from due packets longer → ⊥)
IsLongestSlot table from due packets None = (slot : ℕ) → SLOT_LEAST ≤ slot → slot ≤ table.slot → HasRoom table from due packets slot → ⊥
