-- Worked examples, computed from the definitions: three packets are due at 27,200, and slots that end by 20,000 are in time. Of each period the first three are
-- reserved, so the sixth slot has to end by then: slots of 3,333 ticks have room, and slots of 3,334 don't.
use Rattle.std.proofs.Common.{◌≡◌, ℕ, ◌<◌, ◌≤◌, List, [], ◌∷◌, Some, None, ℤ, pos, ◌≤ℤ◌, refl, subst, inl, inr, arith}
use Rattle.std.proofs.lemmas.Bool.{cases_eq}
use Rattle.std.proofs.lemmas.Int.{ints}
use Rattle.version_table.specs.declared.table.AudioPacket.{AudioPacket}
use Rattle.version_table.specs.declared.table.Table.{Table}
use Rattle.dual_bounds.specs.Room.{audio_due, free_slots, room, serves}
use Rattle.dual_bounds.proofs.Examples.{packet, unit, version}
use Rattle.window_slots.specs.LongestSlot.{HasRoom, IsLongestSlot, with_slot}

-- a unit of three packets, with an audio stream of these packets
abbrev three_packets : (slot : ℕ) → List AudioPacket → Table
three_packets slot packets =
    record { slot = slot; nodes = 1; evaluations = 0; programs = record { vbv = 112; units = unit 27200 (version 552 0 ∷ []) ∷ []; audios = packets ∷ [] } ∷ [] }

rooms : (room (with_slot (three_packets 3335 []) 3335) 27200 27200 ≡ pos 2) × (room (with_slot (three_packets 3335 []) 3334) 27200 27200 ≡ pos 2)
    × (room (with_slot (three_packets 3335 []) 3333) 27200 27200 ≡ pos 3)
unfolding serves free_slots audio_due room
rooms = (refl, refl, refl)

-- room for fewer packets than are wanted, and for as many or more
too_little : (has wanted : ℕ) (of : ℤ) → of ≡ pos has → has < wanted → pos wanted ≤ℤ of → ⊥
too_little has wanted of is less enough = omega (arith, ints)

enough : (has wanted : ℕ) (of : ℤ) → of ≡ pos has → wanted ≤ has → pos wanted ≤ℤ of
enough has wanted of is less = omega (arith, ints)

-- of the slots of 3,333 to 3,335 ticks the first is the longest that has room
longest_is : IsLongestSlot (three_packets 3335 []) 27200 27200 3 (Some 3333)
longest_is = (omega arith, omega arith, enough 3 3 _ rooms.2 (omega arith), none)
  where
    none : (longer : ℕ) → 3333 < longer → longer ≤ 3335 → HasRoom (three_packets 3335 []) 27200 27200 3 longer → ⊥
    none longer above most has = elim (cases_eq longer 3334) as (λ _. ⊥) [
      | inl is ↦ too_little 2 3 _ rooms.1 (omega arith) (subst (λ slot. HasRoom (three_packets 3335 []) 27200 27200 3 slot) is has)
      | inr other ↦ too_little 2 3 _ rooms.0 (omega arith) (subst (λ slot. HasRoom (three_packets 3335 []) 27200 27200 3 slot) (omega arith) has)
    ]

-- seventeen packets have no room in any slot: of the shortest, 16 free ones end by 20,000
shortest_rooms : (room (with_slot (three_packets 1017 []) 1017) 27200 27200 ≡ pos 16) × (room (with_slot (three_packets 1017 []) 1016) 27200 27200 ≡ pos 16)
unfolding serves free_slots audio_due room
shortest_rooms = (refl, refl)

none_is : IsLongestSlot (three_packets 1017 []) 27200 27200 17 None
none_is slot least most has = elim (cases_eq slot 1016) as (λ _. ⊥) [
  | inl is ↦ too_little 16 17 _ shortest_rooms.1 (omega arith) (subst (λ n. HasRoom (three_packets 1017 []) 27200 27200 17 n) is has)
  | inr other ↦ too_little 16 17 _ shortest_rooms.0 (omega arith) (subst (λ n. HasRoom (three_packets 1017 []) 27200 27200 17 n) (omega arith) has)
]

-- an audio packet that is due in the window takes one more slot, so that the seventh has to end by 20,000; one that is due before it takes none
audio_rooms : (room (with_slot (three_packets 4000 (packet 19000 ∷ packet 27200 ∷ [])) 2857) 27200 27200 ≡ pos 3)
    × (room (with_slot (three_packets 4000 (packet 19000 ∷ packet 27200 ∷ [])) 2858) 27200 27200 ≡ pos 2)
unfolding serves free_slots audio_due room
audio_rooms = (refl, refl)

-- room isn't monotone in the slot: slot 678 begins 672 ticks behind 27,000,000, and 6 ticks before it where slots are a tick shorter
late_rooms : (room (with_slot (three_packets 40000 []) 39824) 54000000 54000000 ≡ pos 602) × (room (with_slot (three_packets 40000 []) 39823) 54000000 54000000 ≡ pos 601)
unfolding serves free_slots audio_due room
late_rooms = (refl, refl)
