-- Windows of time that have too little room for what is due in them. Times are ticks of 1/27,000,000 s.
use Rattle.std.specs.Prelude.{◌≡◌, ℕ, ◌≤◌, map, sum_by, if◌then◌else◌, Option, Some, None, pos, ◌<ℤ◌}
use Rattle.std.specs.List.{Contains}
use Rattle.version_table.specs.declared.table.Table.{Table}
use Rattle.version_table.specs.declared.table.Unit.{Unit as CodedUnit}
use Rattle.version_table.specs.Choice.{least}
use Rattle.version_table.specs.Table.{units_of}
use Rattle.dual_bounds.specs.Room.{is_within, room}
use Rattle.dual_bounds.specs.Values.{packet_count}
use Rattle.impossible_proof.specs.declared.window.NoRoom.{NoRoom}

-- how many packets a unit needs at least: the least number, over its versions
abbrev pub fewest_packets : CodedUnit → ℕ
fewest_packets unit = least (map packet_count unit.versions.items)

-- how many packets the units that are due in a window need at least
unfoldable pub need : Table → (from due : ℕ) → ℕ
need table from due = sum_by (λ unit. if is_within from due unit.due then fewest_packets unit else 0) (units_of table)

-- some unit is due at this time
abbrev pub IsUnitDue : Table → (time : ℕ) → Type 0
IsUnitDue table time = Contains (map (λ unit. unit.due) (units_of table)) time

-- a window from a unit's due time to the same or a later one's has less room than its units need
pub record HasNoRoom (table : Table) (from due : ℕ) : Type 0 where
  pub from_due : IsUnitDue table from
  pub due_due : IsUnitDue table due
  pub order : from ≤ due
  pub short : room table from due <ℤ pos (need table from due)

-- the window has no room, none without room ends before it, and none that ends with it begins before it; its numbers are its own
pub record IsFirstNoRoom (table : Table) (found : NoRoom) : Type 0 where
  pub has_no_room : HasNoRoom table found.from found.due
  pub ends_first : (from due : ℕ) → HasNoRoom table from due → found.due ≤ due
  pub begins_first : (from : ℕ) → HasNoRoom table from found.due → found.from ≤ from
  pub needed : found.needed ≡ need table found.from found.due
  pub room : found.room ≡ room table found.from found.due

-- the first window without room, or none where there is none
abbrev pub IsAnswer : Table → Option NoRoom → Type 0
IsAnswer table (Some found) = IsFirstNoRoom table found
IsAnswer table None = (from due : ℕ) → HasNoRoom table from due → ⊥
