-- Worked examples of PES headers and of MB's size, computed from the definitions; the instants are worked out by hand.
use Rattle.std.proofs.Common.{◌≡◌, ℕ, zero, suc, ◌+◌, ◌*◌, ◌≤◌, List, [], ◌∷◌, ◌++◌, map, refl, arith, Some, None}
use Rattle.tstd_model.specs.Instants.{spaced, departures, departures_into}
use Rattle.tstd_model.specs.PacketBytes.{Arrival, parts_of, parts, arrives_in, arrives, kept, with_headers}
use Rattle.tstd_model.specs.Decoder.{Video, Audio, bytes_in, leave_tb, payload_passes, data_passes, removed, moves, eb_rooms, multiplexing_buffer, elementary_buffer}
use Rattle.tstd_model.specs.Faults.{Overflow, Late, IsFirstOrNone}
use Rattle.tstd_model.specs.Private.Scans.{first_over, first_late, is_held, first_old, taken_from}
use Rattle.tstd_model.proofs.RisingLaws.{Rising}
use Rattle.tstd_model.proofs.FaultLaws.{first_fault-rises}
use Rattle.tstd_model.proofs.Examples.{packet, removal, Decided}

-- packets of PES header bytes alone, in each third of so many slots
abbrev headers_each : (first count : ℕ) → List Arrival
headers_each first zero = []
headers_each first (suc count) = record { slot_no = first; header = 184; payload = 184 } ∷ headers_each (first + 3) count

headers-rise : (first count least last bytes : ℕ) → least ≤ first → first + 3 * count ≤ last
    → Rising least (map (λ a. a.slot_no) (headers_each first count ++ packet last bytes bytes))
headers-rise first zero least last bytes le after = (omega arith, tt)
headers-rise first (suc count) least last bytes le after = (le, headers-rise (first + 3) count (first + 1) last bytes (omega arith) (omega arith))

-- ---- headers that wait in MB for data: 54 * 184 bytes and 64 more fill an MB of 239,376 less 112 * 2,048 bytes
mb_full : IsFirstOrNone 1080 (Video 112) (headers_each 0 54 ++ packet 162 64 64) [] None
unfolding first_over first_late is_held first_old taken_from spaced departures departures_into parts_of parts arrives_in arrives kept with_headers
    leave_tb payload_passes data_passes removed eb_rooms moves
mb_full = first_fault-rises 1080 (Video 112) (headers_each 0 54 ++ packet 162 64 64) [] None (headers-rise 0 54 0 162 64 (omega arith) (omega arith)) tt decided
  where
    decided : Decided 1080 (Video 112) (headers_each 0 54 ++ packet 162 64 64) [] None
    decided = (refl, refl, refl)

-- one byte more, the last of slot 162's packet: it leaves TB 188 * 11,280 subticks after the slot began, at 162 * 1,080 * 940
mb_over : IsFirstOrNone 1080 (Video 112) (headers_each 0 54 ++ packet 162 65 65) [] (Some (Overflow 166583040))
unfolding first_over first_late is_held first_old taken_from spaced departures departures_into parts_of parts arrives_in arrives kept with_headers
    leave_tb payload_passes data_passes removed eb_rooms moves
mb_over = first_fault-rises 1080 (Video 112) (headers_each 0 54 ++ packet 162 65 65) [] (Some (Overflow 166583040)) (headers-rise 0 54 0 162 65 (omega arith) (omega arith)) tt decided
  where
    decided : Decided 1080 (Video 112) (headers_each 0 54 ++ packet 162 65 65) [] (Some (Overflow 166583040))
    decided = (refl, tt, tt)

-- ---- the last two bytes of a packet are a PES header's byte and one of data; in slots of 1,128 ticks byte k leaves TB at (k + 1) * 11,280
-- the header comes to MB with the 187th byte, data with the 188th; both leave it 13,536 subticks later, when data moves
header_waits : map (λ at. bytes_in (multiplexing_buffer 1128 112 (packet 0 1 2) []) at) (2109359 ∷ 2109360 ∷ 2120640 ∷ 2134175 ∷ 2134176 ∷ [])
    ≡ 0 ∷ 1 ∷ 2 ∷ 2 ∷ 0 ∷ []
unfolding spaced departures departures_into parts_of parts arrives_in arrives kept with_headers leave_tb payload_passes data_passes removed eb_rooms moves
header_waits = refl

-- the header never comes to EB
data_moves : map (λ at. bytes_in (elementary_buffer 1128 112 (packet 0 1 2) []) at) (2134175 ∷ 2134176 ∷ 3000000 ∷ []) ≡ 0 ∷ 1 ∷ 1 ∷ []
unfolding spaced departures departures_into parts_of parts arrives_in arrives kept with_headers leave_tb payload_passes data_passes removed eb_rooms moves
data_moves = refl

-- ---- audio: a PES header's byte comes to B as data does, at 188 * 101,520 subticks, and a removal takes it a tick later
header_taken : IsFirstOrNone 1128 Audio (packet 0 1 1) (removal 20305 1) None
unfolding first_over first_late is_held first_old taken_from spaced departures departures_into parts_of parts arrives_in arrives kept with_headers
    leave_tb payload_passes data_passes removed eb_rooms moves
header_taken = first_fault-rises 1128 Audio (packet 0 1 1) (removal 20305 1) None (omega arith, tt) (omega arith, tt) decided
  where
    decided : Decided 1128 Audio (packet 0 1 1) (removal 20305 1) None
    decided = (refl, refl, refl)

-- at the very instant at which it comes it isn't there
header_too_early : IsFirstOrNone 1128 Audio (packet 0 1 1) (removal 20304 1) (Some (Late 0))
unfolding first_over first_late is_held first_old taken_from spaced departures departures_into parts_of parts arrives_in arrives kept with_headers
    leave_tb payload_passes data_passes removed eb_rooms moves
header_too_early = first_fault-rises 1128 Audio (packet 0 1 1) (removal 20304 1) (Some (Late 0)) (omega arith, tt) (omega arith, tt) decided
  where
    decided : Decided 1128 Audio (packet 0 1 1) (removal 20304 1) (Some (Late 0))
    decided = (record { at = 19085760; removal = 0 }, refl, refl, tt, tt)
