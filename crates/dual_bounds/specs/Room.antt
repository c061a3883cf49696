-- The room of a window of time: how many packets that are due in it can be sent, beside audio. Times are ticks of 1/27,000,000 s.
use Rattle.std.specs.Prelude.{ℕ, ◌+◌, ◌*◌, ◌/◌, Bool, ◌&&◌, nat_le, length, count_by, is_none, ℤ, pos, ◌-ℤ◌}
use Rattle.std.specs.List.{range_with_len}
use Rattle.stream_constants.specs.declared.decoder.TheConstants.{HOLD_TICKS}
use Rattle.version_table.specs.declared.table.Table.{Table}
use Rattle.version_table.specs.Table.{audio_packets_of}
use Rattle.slot_rule.specs.Timetable.{reserved}
use Rattle.dual_bounds.specs.declared.constants.TheConstants.{MARGIN_TICKS}

-- a time is in the window, whose ends are in it
abbrev pub is_within : (from due time : ℕ) → Bool
is_within from due time = nat_le from time && nat_le time due

-- the slot is free, begins no earlier than a second before the window, since a packet is held no longer (13818-1, 2.4.2.6),
-- and ends a margin before the window's end
unfoldable pub serves : Table → (from due n : ℕ) → Bool
serves table from due n =
    is_none (reserved table.slot (length table.programs) n)
    && nat_le from (n * table.slot + HOLD_TICKS)
    && nat_le ((n + 1) * table.slot + MARGIN_TICKS) due

-- how many slots below n are free
unfoldable pub free_below : Table → (n : ℕ) → ℕ
free_below table n = count_by (λ k. is_none (reserved table.slot (length table.programs) k)) (range_with_len 0 n)

-- how many of the slots that end by the window's end serve it
unfoldable pub free_slots : Table → (from due : ℕ) → ℕ
free_slots table from due = count_by (serves table from due) (range_with_len 0 (due / table.slot))

-- how many audio packets are due in the window
unfoldable pub audio_due : Table → (from due : ℕ) → ℕ
audio_due table from due = count_by (λ packet. is_within from due packet.due) (audio_packets_of table)

-- the free slots of the window less its audio packets
unfoldable pub room : Table → (from due : ℕ) → ℤ
room table from due = pos (free_slots table from due) -ℤ pos (audio_due table from due)

-- the room from the start up to a time
unfoldable pub slot_capacity : Table → (due : ℕ) → ℤ
slot_capacity table due = room table 0 due
