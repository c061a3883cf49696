-- Worked examples, computed from the definitions. Slots last 4,000 ticks.
use Rattle.std.proofs.Common.{◌≡◌, ℕ, List, [], ◌∷◌, pos, refl, arith, lit<}
use Rattle.std.proofs.lemmas.Int.{ints}
use Rattle.version_table.specs.declared.table.ProgramRow.{ProgramRow}
use Rattle.version_table.specs.declared.table.Table.{Table}
use Rattle.version_table.specs.declared.table.Unit.{Unit as CodedUnit}
use Rattle.dual_bounds.specs.Room.{audio_due, free_slots, room, serves}
use Rattle.dual_bounds.proofs.Examples.{packet, unit, version}
use Rattle.impossible_proof.specs.NoRoom.{HasNoRoom, fewest_packets, need}

abbrev table_of : List ProgramRow → Table
table_of programs = record { slot = 4000; nodes = 1; evaluations = 0; programs = programs }

-- a program without audio
abbrev silent : List CodedUnit → ProgramRow
silent units = record { vbv = 112; units = units; audios = [] }

-- ---- three packets are due at 27,200, and slots 3 and 4 alone end in time
abbrev three_packets : Table
three_packets = table_of (silent (unit 27200 (version 552 0 ∷ []) ∷ []) ∷ [])

three_in_two : (need three_packets 27200 27200 ≡ 3) × (room three_packets 27200 27200 ≡ pos 2)
unfolding need serves free_slots audio_due room
three_in_two = (refl, refl)

has_no_room : HasNoRoom three_packets 27200 27200
has_no_room =
    let numbers = three_in_two in
    record { from_due = (0, lit< tt, refl); due_due = (0, lit< tt, refl); order = omega arith; short = omega (arith, ints, numbers.0, numbers.1) }

-- one byte less than a third packet, and two have room
two_in_two : (need (table_of (silent (unit 27200 (version 368 0 ∷ []) ∷ []) ∷ [])) 27200 27200 ≡ 2)
    × (room (table_of (silent (unit 27200 (version 368 0 ∷ []) ∷ []) ∷ [])) 27200 27200 ≡ pos 2)
unfolding need serves free_slots audio_due room
two_in_two = (refl, refl)

-- due one slot later, three have room
three_in_three : room (table_of (silent (unit 31200 (version 552 0 ∷ []) ∷ []) ∷ [])) 31200 31200 ≡ pos 3
unfolding serves free_slots audio_due room
three_in_three = refl

-- ---- the version of fewest packets counts, wherever it stands
fewest : (fewest_packets (unit 27200 (version 552 0 ∷ version 184 10 ∷ version 185 7 ∷ [])) ≡ 1) × (fewest_packets (unit 27200 (version 185 7 ∷ version 552 0 ∷ [])) ≡ 2)
fewest = (refl, refl)

-- ---- two programs that fail together, and neither alone: of the slots up to 31,200 the first five are reserved
abbrev both : Table
both = table_of (silent (unit 31200 (version 184 0 ∷ []) ∷ []) ∷ silent (unit 31200 (version 184 0 ∷ []) ∷ []) ∷ [])

together : (need both 31200 31200 ≡ 2) × (room both 31200 31200 ≡ pos 1)
unfolding need serves free_slots audio_due room
together = (refl, refl)

first_alone : need (table_of (silent (unit 31200 (version 184 0 ∷ []) ∷ []) ∷ silent [] ∷ [])) 31200 31200 ≡ 1
unfolding need
first_alone = refl

second_alone : need (table_of (silent [] ∷ silent (unit 31200 (version 184 0 ∷ []) ∷ []) ∷ [])) 31200 31200 ≡ 1
unfolding need
second_alone = refl

-- ---- audio takes the room: two packets have room for two, and not beside an audio packet that is due with them
abbrev with_audio : (time : ℕ) → Table
with_audio time = table_of (record { vbv = 112; units = unit 27200 (version 368 0 ∷ []) ∷ []; audios = (packet time ∷ []) ∷ [] } ∷ [])

beside_audio : (need (with_audio 27200) 27200 27200 ≡ 2) × (room (with_audio 27200) 27200 27200 ≡ pos 1)
unfolding need serves free_slots audio_due room
beside_audio = (refl, refl)

-- audio that is due before or behind the window takes none of it
audio_elsewhere : (room (with_audio 27199) 27200 27200 ≡ pos 2) × (room (with_audio 27201) 27200 27200 ≡ pos 2)
unfolding serves free_slots audio_due room
audio_elsewhere = (refl, refl)

-- ---- a window of two dues: two packets each have room alone, and not together
abbrev two_dues : Table
two_dues = table_of (silent (unit 27200 (version 368 0 ∷ []) ∷ unit 27300 (version 184 0 ∷ []) ∷ []) ∷ [])

over_both : (need two_dues 27200 27300 ≡ 3) × (room two_dues 27200 27300 ≡ pos 2)
unfolding need serves free_slots audio_due room
over_both = (refl, refl)

over_each : (need two_dues 27200 27200 ≡ 2) × (need two_dues 27300 27300 ≡ 1)
unfolding need
over_each = (refl, refl)
