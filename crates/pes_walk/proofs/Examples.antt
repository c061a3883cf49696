-- A walk computed at worked examples: payloads of a PID, and what is open and ended behind each.
use Rattle.std.proofs.Common.{◌≡◌, ℕ, true, false, List, [], ◌∷◌, ◌++◌, replicate, Some, None, refl, arith}
use Rattle.std.proofs.lemmas.List.{take-replicate, take_all, length-replicate}
use Rattle.bit_lists.specs.Fields.{bit, bits}
use Rattle.pes_units.specs.PesPackets.{Gathered, gathered}
use Rattle.pes_walk.specs.Walk.{carried_as, closed_behind, open_behind, front_of, packet_data, all_data}

packet : ℕ → List ℕ → Gathered
packet at bytes = record { at = at; bytes = bytes }

-- ---- what begins and ends

-- before the first start flag nothing is open, and nothing ends
before_first : open_behind None (carried_as 0 false (1 ∷ 2 ∷ [])) ≡ None
before_first = refl

none_ended : closed_behind [] None (carried_as 188 true (3 ∷ [])) ≡ []
none_ended = refl

-- a packet over three payloads is at the first one's place
over_three : open_behind (open_behind (open_behind None (carried_as 188 true (3 ∷ []))) (carried_as 376 false (4 ∷ 5 ∷ []))) (carried_as 940 false (6 ∷ [])) ≡ Some (packet 188 (3 ∷ 4 ∷ 5 ∷ 6 ∷ []))
unfolding packet
over_three = refl

-- one that begins where another ends: the next start flag
next_begins : open_behind (Some (packet 188 (3 ∷ 4 ∷ []))) (carried_as 376 true (7 ∷ [])) ≡ Some (packet 376 (7 ∷ []))
unfolding packet
next_begins = refl

next_ends : closed_behind (packet 0 (1 ∷ []) ∷ []) (Some (packet 188 (3 ∷ 4 ∷ []))) (carried_as 376 true (7 ∷ [])) ≡ packet 0 (1 ∷ []) ∷ packet 188 (3 ∷ 4 ∷ []) ∷ []
unfolding packet
next_ends = refl

-- the start flag of a payload without bytes means nothing
no_bytes : open_behind (Some (packet 188 (3 ∷ []))) (carried_as 376 true []) ≡ Some (packet 188 (3 ∷ []))
unfolding packet
no_bytes = refl

-- so the whole list is gathered: two packets, and a byte before them in none
in_all : gathered (carried_as 0 false (1 ∷ []) ∷ carried_as 188 true (3 ∷ []) ∷ carried_as 376 false (4 ∷ []) ∷ carried_as 564 true [] ∷ carried_as 752 true (7 ∷ []) ∷ []) ≡ packet 188 (3 ∷ 4 ∷ []) ∷ packet 752 (7 ∷ []) ∷ []
unfolding packet
in_all = refl

-- ---- what is kept

kept_65541 : front_of (replicate 65541 7) ≡ replicate 65541 7
kept_65541 = take_all 65542 (replicate 65541 7) (omega (arith, length-replicate {A = ℕ} 65541 7))

kept_65542 : front_of (replicate 65542 7) ≡ replicate 65542 7
kept_65542 = take_all 65542 (replicate 65542 7) (omega (arith, length-replicate {A = ℕ} 65542 7))

lost_65543 : front_of (replicate 65543 7) ≡ replicate 65542 7
lost_65543 = take-replicate 65542 65543 7 (omega arith)

-- ---- the bytes behind headers

-- a header of ten bytes, which states 6 more behind its own length: one is behind the header, then one more
ten : List ℕ
ten = 0 ∷ 0 ∷ 1 ∷ 0xE0 ∷ 0 ∷ 6 ∷ 0x80 ∷ 0 ∷ 1 ∷ 0xFF ∷ []

behind_none : packet_data (packet 0 ten) ≡ []
unfolding packet ten bit bits
behind_none = refl

behind_two : packet_data (packet 0 (ten ++ 5 ∷ 6 ∷ [])) ≡ 5 ∷ 6 ∷ []
unfolding packet ten bit bits
behind_two = refl

-- eight bytes don't say how long the header is: nothing is behind it yet
behind_eight : packet_data (packet 0 (0 ∷ 0 ∷ 1 ∷ 0xE0 ∷ 0 ∷ 6 ∷ 0x80 ∷ 0 ∷ [])) ≡ []
unfolding packet bit bits
behind_eight = refl

behind_both : all_data (packet 0 (ten ++ 5 ∷ []) ∷ packet 188 (ten ++ 6 ∷ []) ∷ []) ≡ 5 ∷ 6 ∷ []
unfolding packet ten bit bits
behind_both = refl
