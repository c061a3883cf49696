-- The worked examples, computed from the definitions: windows that are full to the byte, and one byte more that misses.
use Rattle.std.proofs.Common.{◌≡◌, ℕ, ◌+◌, ◌*◌, true, false, List, [], ◌∷◌, replicate, Some, None, pos, negsuc, refl, arith}
use Rattle.std.specs.Int.{div_ceil}
use Rattle.version_table.specs.declared.table.AudioPacket.{AudioPacket}
use Rattle.version_table.specs.declared.table.Unit.{Unit as CodedUnit}
use Rattle.version_table.specs.declared.table.Version.{Version}
use Rattle.version_table.specs.declared.table.Table.{Table}
use Rattle.slot_rule.specs.Schedule.{IsFirstMiss, IsScheduled}
use Rattle.slot_rule.proofs.RuleRun.{first_rows, IsSchedule-from_run, IsFirstMiss-from_run}
use Rattle.buffer_windows.specs.declared.windows.BufferWindow.{BufferWindow}
use Rattle.buffer_windows.specs.Bounds.{bound_of_byte_value as bound_of_value, bound_of_buffer_windows as bound_of_windows}
use Rattle.buffer_windows.specs.Charges.{charges}
use Rattle.buffer_windows.specs.Room.{audio_slots, buffer_bytes, free_window_slots as free_slots, longest_before, buffer_room as room}
use Rattle.buffer_windows.specs.Values.{least_owned_cost as least_cost, least_owned_costs as least_costs, version_price as price, value_of_buffer_windows as value_of_windows, buffer_worth as worth}
use Rattle.buffer_windows.specs.Windows.{IsBufferWindow, is_fresh, is_held, stop, without_buffers}
use Rattle.dual_bounds.proofs.Examples.{unit, packet}
use Rattle.slot_rule.proofs.RuleExamples.{rows_in}

abbrev version : (bytes : ℕ) → Version
version bytes = record { bytes = bytes; distortion = 0 }

-- a table of one program, whose elementary buffer has 2,048 bytes
abbrev table_of : (slot : ℕ) → List CodedUnit → List (List AudioPacket) → Table
table_of slot units audios = record { slot = slot; nodes = 1; evaluations = 0; programs = record { vbv = 1; units = units; audios = audios } ∷ [] }

abbrev window_of : (first due programs tail : ℕ) → BufferWindow
window_of first due programs tail = record { first = first; due = due; programs = programs; tail = tail; lambda = 1 }

-- ---- slots of 40,000 ticks, of which 0 to 2 and 27 to 29 are reserved
-- a unit that fills the buffer until slot 30 begins, and one that has slots 30 and 31 alone: of 368 bytes, or of one byte more
abbrev held_table : Table
held_table = table_of 40000 (unit 1200000 (version 2048 ∷ []) ∷ unit 1287200 (version 368 ∷ version 369 ∷ []) ∷ []) []

-- the window begins with slot 27, and ends with slot 31
abbrev held_window : BufferWindow
held_window = window_of 27 1287200 1 32

held_window_is : IsBufferWindow 40000 held_window
held_window_is = record { from = omega arith; upto = omega arith; begins = λ some. omega arith }

-- both units may have packets before slot 27
both_held : (is_held 40000 held_window 0 1200000 ≡ true) × (is_held 40000 held_window 0 1287200 ≡ true)
both_held = (refl, refl)

-- two slots and 2,048 bytes of the buffer
held_room : room held_table held_window ≡ pos 2416
unfolding free_slots audio_slots buffer_bytes room
held_room = refl

full : charges held_table (0 ∷ 0 ∷ []) held_window ≡ 2416
full = refl

full_is_scheduled : IsScheduled held_table (0 ∷ 0 ∷ [])
full_is_scheduled =
    (rows_in (first_rows held_table (0 ∷ 0 ∷ []) 32), IsSchedule-from_run held_table (0 ∷ 0 ∷ []) 32 (rows_in (first_rows held_table (0 ∷ 0 ∷ []) 32)) refl refl)

-- one byte more is charged than there is room for, and misses
one_byte_more : charges held_table (0 ∷ 1 ∷ []) held_window ≡ 2417
one_byte_more = refl

one_byte_more_misses : IsFirstMiss held_table (0 ∷ 1 ∷ []) (record { stream = 0; unit = 1; slot = 32; due = 1287200 })
one_byte_more_misses = IsFirstMiss-from_run held_table (0 ∷ 1 ∷ []) 33 (record { stream = 0; unit = 1; slot = 32; due = 1287200 }) refl

-- if held units were charged in whole packets, the choice that is scheduled would be charged more than the room
whole_packets : 184 * div_ceil 2048 184 + 184 * div_ceil 368 184 ≡ 2416 + 160
whole_packets = refl

-- without the buffer nothing is charged, since both units may go before slot 27
unbuffered : (charges held_table (0 ∷ 0 ∷ []) (window_of 27 1287200 0 32) ≡ 0) × (room held_table (window_of 27 1287200 0 32) ≡ pos 368)
unfolding free_slots audio_slots buffer_bytes room
unbuffered = (refl, refl)

-- from slot 0 on whole packets are charged: 14 of the 26 free slots
from_start : (charges held_table (0 ∷ 0 ∷ []) (window_of 0 1287200 1 32) ≡ 184 * 14) × (room held_table (window_of 0 1287200 1 32) ≡ pos (184 * 26))
unfolding free_slots audio_slots buffer_bytes room
from_start = (refl, refl)

-- ---- slots of 1,016 ticks, in which MB passes on 70 bytes
-- a unit of 368 bytes, the last of which leaves MB just in time, or of one byte more
abbrev tail_table : Table
tail_table = table_of 1016 (unit 15548 (version 368 ∷ version 369 ∷ []) ∷ []) []

-- no slot before the tail is free: MB can give 368 bytes from slot 3 on
abbrev tail_window : BufferWindow
tail_window = window_of 0 15548 0 3

tail_window_is : IsBufferWindow 1016 tail_window
tail_window_is = record { from = omega arith; upto = omega arith; begins = λ some. absurd (omega arith) }

tail_room : room tail_table tail_window ≡ pos 368
unfolding free_slots audio_slots buffer_bytes room
tail_room = refl

tail_full : charges tail_table (0 ∷ []) tail_window ≡ 368
tail_full = refl

tail_is_scheduled : IsScheduled tail_table (0 ∷ [])
tail_is_scheduled =
    (rows_in (first_rows tail_table (0 ∷ []) 6), IsSchedule-from_run tail_table (0 ∷ []) 6 (rows_in (first_rows tail_table (0 ∷ []) 6)) refl refl)

tail_one_byte_more : charges tail_table (1 ∷ []) tail_window ≡ 369
tail_one_byte_more = refl

tail_misses : IsFirstMiss tail_table (1 ∷ []) (record { stream = 0; unit = 0; slot = 8; due = 15548 })
tail_misses = IsFirstMiss-from_run tail_table (1 ∷ []) 9 (record { stream = 0; unit = 0; slot = 8; due = 15548 }) refl

-- without the tail there were five slots for it
without_tail : room tail_table (window_of 0 15548 0 8) ≡ pos 920
unfolding free_slots audio_slots buffer_bytes room
without_tail = refl

-- ---- audio
-- two packets that are gone when slot 30 begins, and others that are wanted when slots up to 31 have ended
abbrev audio_packets : (others : ℕ) → List AudioPacket
audio_packets others = packet 1200000 ∷ packet 1200000 ∷ replicate others (packet 1287200)

abbrev audio_table : (others : ℕ) → Table
audio_table others = table_of 40000 [] (audio_packets others ∷ [])

-- B holds 19 of them before slot 27, and slots 30 and 31 take two
audio_full : (longest_before 40000 held_window (audio_packets 19) ≡ 19) × (audio_slots (audio_table 19) held_window ≡ 2) × (room (audio_table 19) held_window ≡ pos 2048)
unfolding free_slots audio_slots buffer_bytes room
audio_full = (refl, refl, refl)

audio_is_scheduled : IsScheduled (audio_table 19) []
audio_is_scheduled = (rows_in (first_rows (audio_table 19) [] 32), IsSchedule-from_run (audio_table 19) [] 32 (rows_in (first_rows (audio_table 19) [] 32)) refl refl)

-- one packet more has no slot: where no video buffer is counted the room is less than nothing
audio_over : room (audio_table 20) (window_of 27 1287200 0 32) ≡ negsuc 183
unfolding free_slots audio_slots buffer_bytes room
audio_over = refl

audio_misses : IsFirstMiss (audio_table 20) [] (record { stream = 1; unit = 21; slot = 32; due = 1287200 })
audio_misses = IsFirstMiss-from_run (audio_table 20) [] 33 (record { stream = 1; unit = 21; slot = 32; due = 1287200 }) refl

-- ---- the ends of what a window counts
-- 7,200 ticks and a slot before the due time
stops : (stop 40000 47200 ≡ 1) × (stop 40000 47199 ≡ 0) × (stop 40000 7199 ≡ 0)
stops = (refl, refl, refl)

-- what goes in slot 26 is gone by 28,040,000
fresh_after_a_second : (is_fresh 40000 held_window 28040001 ≡ true) × (is_fresh 40000 held_window 28040000 ≡ false)
fresh_after_a_second = (refl, refl)

-- what is removed when slot 27 begins isn't held
held_ends : (is_held 40000 held_window 0 1080000 ≡ false) × (is_held 40000 held_window 0 1080001 ≡ true) × (is_held 40000 held_window 0 28040000 ≡ true)
    × (is_held 40000 held_window 0 28040001 ≡ false) × (is_held 40000 held_window 1 1080001 ≡ false)
held_ends = (refl, refl, refl, refl, refl)

-- ---- values and bounds
abbrev priced : (lambda : ℕ) → BufferWindow
priced lambda = record { first = 27; due = 1287200; programs = 1; tail = 32; lambda = lambda }

-- the table of held units, whose last byte saves five distortions; of the first unit a version without distortion is one byte larger than its buffer
abbrev valued_table : Table
valued_table = table_of 40000 (
    unit 1200000 (record { bytes = 2049; distortion = 0 } ∷ record { bytes = 2048; distortion = 2 } ∷ [])
    ∷ unit 1287200 (record { bytes = 369; distortion = 0 } ∷ record { bytes = 368; distortion = 5 } ∷ []) ∷ []) []

-- 2,048 bytes and 368 have room: the last byte costs 188,417 parts, which is less than its five distortions; two more come from the first unit
valued_at_four : value_of_windows valued_table (None ∷ None ∷ []) (priced 188417 ∷ []) ≡ pos (188417 + 94208)
unfolding free_slots audio_slots buffer_bytes room price least_cost least_costs worth value_of_windows
valued_at_four = refl

-- at 235,520 parts both versions of the last unit cost the same, and no price of a byte gives more
valued_at_five : (value_of_windows valued_table (None ∷ None ∷ []) (priced 235520 ∷ []) ≡ pos (235520 + 94208))
    × (value_of_windows valued_table (None ∷ None ∷ []) (priced 999999 ∷ []) ≡ pos (235520 + 94208))
unfolding free_slots audio_slots buffer_bytes room price least_cost least_costs worth value_of_windows
valued_at_five = (refl, refl)

-- 4 * 47,104 are four distortions, and one part more is five
rounded : (bound_of_value (pos 188416) ≡ 4) × (bound_of_value (pos 188417) ≡ 5) × (bound_of_value (negsuc 0) ≡ 0)
rounded = (refl, refl, refl)

-- a fixed version is taken as it is; where none is left that the buffer holds there is no bound
none_left : (bound_of_windows valued_table (None ∷ None ∷ []) (priced 188417 ∷ []) ≡ Some 7)
    × (bound_of_windows valued_table (Some 0 ∷ None ∷ []) [] ≡ Some 0)
    × (bound_of_windows (table_of 40000 (unit 1200000 (version 2049 ∷ []) ∷ []) []) (None ∷ []) [] ≡ None)
unfolding free_slots audio_slots buffer_bytes room price least_cost least_costs worth value_of_windows bound_of_windows
none_left = (refl, refl, refl)

-- ---- windows of time
-- slots 2 and 3 are the first that begin no earlier than a second before 27,080,000 and a tick later; within the first second slot 0 is
first_slots : (without_buffers 40000 (record { from = 27080000; due = 27127200; lambda = 5 }) ≡ record { first = 2; due = 27127200; programs = 0; tail = 678; lambda = 5 })
    × (without_buffers 40000 (record { from = 27080001; due = 27127199; lambda = 5 }) ≡ record { first = 3; due = 27127199; programs = 0; tail = 677; lambda = 5 })
    × (without_buffers 40000 (record { from = 27000000; due = 27000000; lambda = 5 }) ≡ record { first = 0; due = 27000000; programs = 0; tail = 674; lambda = 5 })
first_slots = (refl, refl, refl)
