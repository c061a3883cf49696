-- The worked examples, computed from the definitions.
use Rattle.std.proofs.Common.{◌≡◌, ℕ, List, [], ◌∷◌, Option, Some, None, pos, negsuc, refl}
use Rattle.version_table.specs.declared.table.AudioPacket.{AudioPacket}
use Rattle.version_table.specs.declared.table.Unit.{Unit as CodedUnit}
use Rattle.version_table.specs.declared.table.Version.{Version}
use Rattle.version_table.specs.declared.table.ProgramRow.{ProgramRow}
use Rattle.version_table.specs.declared.table.Table.{Table}
use Rattle.version_table.specs.Table.{units_of}
use Rattle.dual_bounds.specs.declared.windows.Multiplier.{Multiplier}
use Rattle.dual_bounds.specs.Room.{serves, free_slots, audio_due, room, slot_capacity}
use Rattle.dual_bounds.specs.Values.{price, least_cost, least_costs, worth, value_of_windows, value_of_multipliers}
use Rattle.dual_bounds.specs.Bounds.{bound_of_value}

abbrev pub version : (bytes distortion : ℕ) → Version
version bytes distortion = record { bytes = bytes; distortion = distortion }

abbrev pub unit : (due : ℕ) → List Version → CodedUnit
unit due versions = record { due = due; versions = record { items = versions } }

abbrev table_of : (slot : ℕ) → List ProgramRow → Table
table_of slot programs = record { slot = slot; nodes = 1; evaluations = 0; programs = programs }

-- a table of one program, without audio
abbrev silent : (slot : ℕ) → List CodedUnit → Table
silent slot units = table_of slot (record { vbv = 112; units = units; audios = [] } ∷ [])

abbrev multiplier : (due lambda : ℕ) → Multiplier
multiplier due lambda = record { due = due; lambda = lambda }

-- ---- one unit, of which two or three packets are due at 27,200 in slots of 4,000 ticks: slots 3 and 4 end in time
abbrev one_unit : Table
one_unit = silent 4000 (unit 27200 (version 552 0 ∷ version 368 10 ∷ []) ∷ [])

capacity_of_one : slot_capacity one_unit 27200 ≡ pos 2
unfolding serves free_slots audio_due room slot_capacity
capacity_of_one = refl

-- one tick less, and slot 4 ends too late
capacity_one_tick_before : slot_capacity one_unit 27199 ≡ pos 1
unfolding serves free_slots audio_due room slot_capacity
capacity_one_tick_before = refl

-- a lambda of ten distortions, and lambdas about nine of them: three packets at 2,305 or two at 2,305 and ten distortions
bound_at_ten : value_of_multipliers one_unit (None ∷ []) (multiplier 27200 2560 ∷ []) ≡ pos 2560
unfolding serves free_slots audio_due room price least_cost least_costs worth value_of_windows value_of_multipliers
bound_at_ten = refl

bound_above_nine : value_of_multipliers one_unit (None ∷ []) (multiplier 27200 2305 ∷ []) ≡ pos 2305
unfolding serves free_slots audio_due room price least_cost least_costs worth value_of_windows value_of_multipliers
bound_above_nine = refl

-- 2,305 parts round up to ten distortions, 2,304 are nine
rounded_up : bound_of_value (pos 2305) ≡ 10
rounded_up = refl

not_rounded : bound_of_value (pos 2304) ≡ 9
not_rounded = refl

negative : bound_of_value (negsuc 0) ≡ 0
negative = refl

-- the greatest lambda, at which room for two packets is worth more than the two that the unit has at least
bound_at_most : value_of_multipliers one_unit (None ∷ []) (multiplier 27200 1099511627776 ∷ []) ≡ pos 2560
unfolding serves free_slots audio_due room price least_cost least_costs worth value_of_windows value_of_multipliers
bound_at_most = refl

-- version 0 alone, and the same lambda: one packet too many
fixed_at_most : value_of_multipliers one_unit (Some 0 ∷ []) (multiplier 27200 1099511627776 ∷ []) ≡ pos 1099511627776
unfolding serves free_slots audio_due room price least_cost least_costs worth value_of_windows value_of_multipliers
fixed_at_most = refl

-- version 1 alone, without multipliers
fixed_alone : value_of_multipliers one_unit (Some 1 ∷ []) [] ≡ pos 2560
unfolding serves free_slots audio_due room price least_cost least_costs worth value_of_windows value_of_multipliers
fixed_alone = refl

-- ---- three units, due at 27,200, 43,200 and 47,200
abbrev three_units : Table
three_units = silent 4000 (
    unit 27200 (version 552 0 ∷ version 368 10 ∷ []) ∷ unit 43200 (version 552 0 ∷ version 368 4 ∷ []) ∷ unit 47200 (version 552 0 ∷ version 368 4 ∷ []) ∷ [])

abbrev free : List (Option ℕ)
free = None ∷ None ∷ None ∷ []

capacities_of_three : (slot_capacity three_units 27200 ≡ pos 2) × (slot_capacity three_units 43200 ≡ pos 6) × (slot_capacity three_units 47200 ≡ pos 7)
unfolding serves free_slots audio_due room slot_capacity
capacities_of_three = (refl, refl, refl)

one_multiplier : value_of_multipliers three_units free (multiplier 27200 2560 ∷ []) ≡ pos 2560
unfolding serves free_slots audio_due room price least_cost least_costs worth value_of_windows value_of_multipliers
one_multiplier = refl

-- 15,872 less 12,288, in either order
two_multipliers : value_of_multipliers three_units free (multiplier 27200 2560 ∷ multiplier 47200 1024 ∷ []) ≡ pos 3584
unfolding serves free_slots audio_due room price least_cost least_costs worth value_of_windows value_of_multipliers
two_multipliers = refl

other_order : value_of_multipliers three_units free (multiplier 47200 1024 ∷ multiplier 27200 2560 ∷ []) ≡ pos 3584
unfolding serves free_slots audio_due room price least_cost least_costs worth value_of_windows value_of_multipliers
other_order = refl

parts_of_two : (least_costs (record { from = 0; due = 27200; lambda = 2560 } ∷ record { from = 0; due = 47200; lambda = 1024 } ∷ []) (units_of three_units) free ≡ 15872)
    × (worth three_units (record { from = 0; due = 27200; lambda = 2560 } ∷ record { from = 0; due = 47200; lambda = 1024 } ∷ []) ≡ pos 12288)
unfolding serves free_slots audio_due room price least_cost least_costs worth
parts_of_two = (refl, refl)

bound_of_two : bound_of_value (pos 3584) ≡ 14
bound_of_two = refl

-- ---- a unit of 625 or 500 packets, due at two seconds, in slots of 40,000 ticks
abbrev late_unit : Table
late_unit = silent 40000 (unit 54000000 (version 115000 0 ∷ version 92000 10 ∷ []) ∷ [])

rooms : (room late_unit 0 54000000 ≡ pos 1199) × (room late_unit 54000000 54000000 ≡ pos 599)
unfolding serves free_slots audio_due room
rooms = (refl, refl)

-- a multiplier has too much room to bound anything; the window has 12,500 less 11,980
late_value : value_of_windows late_unit (None ∷ []) (record { from = 54000000; due = 54000000; lambda = 20 } ∷ []) ≡ pos 520
unfolding serves free_slots audio_due room price least_cost least_costs worth value_of_windows
late_value = refl

late_bound : bound_of_value (pos 520) ≡ 3
late_bound = refl

early_value : value_of_multipliers late_unit (None ∷ []) (multiplier 54000000 20 ∷ []) ≡ negsuc 11479
unfolding serves free_slots audio_due room price least_cost least_costs worth value_of_windows value_of_multipliers
early_value = refl

-- ---- versions with as many packets: the lesser distortion costs less
abbrev equal_packets : Table
equal_packets = silent 4000 (unit 27200 (version 552 7 ∷ version 369 3 ∷ version 368 9 ∷ []) ∷ [])

-- two packets at 9 distortions cost 4,304, three at 3 only 3,768, where a packet costs 1,000
equal_value : least_cost (record { from = 0; due = 27200; lambda = 1000 } ∷ []) (unit 27200 (version 552 7 ∷ version 369 3 ∷ version 368 9 ∷ [])) None ≡ 3768
unfolding price least_cost
equal_value = refl

-- ---- audio: two of three packets are due by 27,200, and one before 27,000
abbrev pub packet : (due : ℕ) → AudioPacket
packet due = record { due = due; gone = due; bytes = 184 }

abbrev with_audio : Table
with_audio = table_of 4000 (record { vbv = 112; units = []; audios = (packet 26999 ∷ packet 27200 ∷ packet 27201 ∷ []) ∷ [] } ∷ [])

audio_counts : (audio_due with_audio 0 27200 ≡ 2) × (audio_due with_audio 27000 27200 ≡ 1) × (audio_due with_audio 27200 27201 ≡ 2) × (audio_due with_audio 27202 27202 ≡ 0)
unfolding audio_due
audio_counts = (refl, refl, refl, refl)

audio_capacity : (slot_capacity with_audio 27200 ≡ pos 0) × (slot_capacity with_audio 27199 ≡ pos 0)
unfolding serves free_slots audio_due room slot_capacity
audio_capacity = (refl, refl)

-- without units the value is what the room is worth, less than nothing: no free slot ends by 20,000, and one packet more is due
abbrev crowded : Table
crowded = table_of 4000 (record { vbv = 112; units = []; audios = (packet 19000 ∷ []) ∷ [] } ∷ [])

crowded_room : room crowded 0 20000 ≡ negsuc 0
unfolding serves free_slots audio_due room
crowded_room = refl

-- such a table has no scheduled choice, and its bound is as great as one likes
crowded_value : value_of_multipliers crowded [] (multiplier 20000 1099511627776 ∷ []) ≡ pos 1099511627776
unfolding serves free_slots audio_due room price least_cost least_costs worth value_of_windows value_of_multipliers
crowded_value = refl

-- ---- no units: a value of 0 without multipliers, and less with them
no_units : (value_of_multipliers (silent 4000 []) [] [] ≡ pos 0) × (value_of_multipliers (silent 4000 []) [] (multiplier 27200 5 ∷ []) ≡ negsuc 9)
unfolding serves free_slots audio_due room price least_cost least_costs worth value_of_windows value_of_multipliers
no_units = (refl, refl)
