-- The room of a window that sees the buffers, in bytes: what free slots, elementary buffers and, behind the tail, MB can give.
use Rattle.std.specs.Prelude.{
  ℕ,
  ◌+◌,
  ◌-◌,
  ◌*◌,
  ◌/◌,
  ◌==◌,
  Bool,
  ◌&&◌,
  ◌||◌,
  not,
  nat_le,
  nat_lt,
  if◌then◌else◌,
  List,
  length,
  map,
  fold,
  max,
  take,
  filter,
  sum_by,
  count_by,
  is_none,
  ℤ,
  pos,
  ◌-ℤ◌,
}
use Rattle.std.specs.List.{enumerate_from, flat_map, list_any, range_with_len}
use Rattle.stream_constants.specs.declared.clock.TheConstants.{SUBTICKS_PER_TICK}
use Rattle.stream_constants.specs.declared.decoder.TheConstants.{AUDIO_BYTES, EB_UNIT_BYTES, MB_SUBTICKS}
use Rattle.stream_constants.specs.declared.packets.TheConstants.{PAYLOAD_BYTES}
use Rattle.version_table.specs.declared.table.AudioPacket.{AudioPacket}
use Rattle.version_table.specs.declared.table.ProgramRow.{ProgramRow}
use Rattle.version_table.specs.declared.table.Table.{Table}
use Rattle.slot_rule.specs.Timetable.{reserved}
use Rattle.dual_bounds.specs.declared.constants.TheConstants.{MARGIN_TICKS}
use Rattle.buffer_windows.specs.declared.windows.BufferWindow.{BufferWindow}
use Rattle.buffer_windows.specs.Windows.{counts_buffer, latest, stop}

-- ---- slots
-- the free slots from the window's first slot up to its tail
unfoldable pub free_window_slots : Table → BufferWindow → ℕ
free_window_slots table window =
    count_by (λ n. is_none (reserved table.slot (length table.programs) n)) (range_with_len window.first (window.tail - window.first))

-- ---- audio
-- the packet's slots end by the tail, and it isn't gone before the window's first slot begins
abbrev pub is_counted : (slot : ℕ) → BufferWindow → AudioPacket → Bool
is_counted slot window packet =
    nat_le packet.due window.due && nat_le (stop slot packet.due) window.tail && ((window.first == 0) || nat_lt (window.first * slot) packet.due)

-- these packets of an audio stream can go before the window's first slot: each is gone by the latest time, and B holds them together
abbrev pub fit_before : (slot : ℕ) → BufferWindow → List AudioPacket → Bool
fit_before slot window packets =
    nat_lt 0 window.first && not (list_any (λ packet. nat_lt (latest slot window) packet.gone) packets) && nat_le (sum_by (λ packet. packet.bytes) packets) AUDIO_BYTES

-- how long the longest front of these packets is that can go before the first slot: the fronts that can, each one packet longer
abbrev pub longest_before : (slot : ℕ) → BufferWindow → List AudioPacket → ℕ
longest_before slot window packets = count_by (λ n. fit_before slot window (take n packets)) (range_with_len 1 (length packets))

-- the slots of the window that an audio stream takes, at least
abbrev pub slots_taken : (slot : ℕ) → BufferWindow → List AudioPacket → ℕ
slots_taken slot window packets =
    let counted = filter (is_counted slot window) packets in length counted - longest_before slot window counted

-- the slots of the window that all audio streams take, at least
unfoldable pub audio_slots : Table → BufferWindow → ℕ
audio_slots table window = sum_by (slots_taken table.slot window) (flat_map (λ program. program.audios) table.programs)

-- ---- buffers
-- the bytes of the program's elementary buffer, where the window counts it
abbrev pub counted_eb_bytes : BufferWindow → (program : ℕ) → ProgramRow → ℕ
counted_eb_bytes window program row = if nat_lt 0 window.first && counts_buffer window program then EB_UNIT_BYTES * row.vbv else 0

-- the last due time of the program's units in the window; 0 where none is
abbrev pub last_due : BufferWindow → ProgramRow → ℕ
last_due window row = fold max 0 (filter (λ due. nat_le due window.due) (map (λ unit. unit.due) row.units))

-- the bytes that the program's MB can give from the tail on, up to a margin before the last due time
abbrev pub mb_bytes : (slot : ℕ) → BufferWindow → ProgramRow → ℕ
mb_bytes slot window row =
    let due = last_due window row in
    if nat_lt window.tail (stop slot due) then SUBTICKS_PER_TICK * (due - MARGIN_TICKS - window.tail * slot) / MB_SUBTICKS else 0

-- what the buffers of all programs give
unfoldable pub buffer_bytes : Table → BufferWindow → ℕ
buffer_bytes table window =
    sum_by (λ (program, row). counted_eb_bytes window program row + mb_bytes table.slot window row) (enumerate_from 0 table.programs)

-- ---- the room
-- the window's free slots and what the buffers give, less the slots of audio
unfoldable pub buffer_room : Table → BufferWindow → ℤ
buffer_room table window = pos (PAYLOAD_BYTES * free_window_slots table window + buffer_bytes table window) -ℤ pos (PAYLOAD_BYTES * audio_slots table window)
