-- Worked examples, computed from the definitions. The instants were worked out by another program, which moves bytes one by one.
use Rattle.std.proofs.Common.{◌≡◌, ℕ, zero, suc, ◌+◌, ◌*◌, ◌≤◌, List, [], ◌∷◌, ◌++◌, map, refl, arith, Option, Some, None}
use Rattle.stream_constants.specs.declared.clock.TheConstants.{BYTE_SUBTICKS_PER_TICK}
use Rattle.stream_constants.specs.declared.decoder.TheConstants.{VIDEO_TB_SUBTICKS, AUDIO_TB_SUBTICKS, SYSTEM_TB_SUBTICKS, MB_SUBTICKS, EB_UNIT_BYTES, VIDEO_BYTES, SYSTEM_SUBTICKS}
use Rattle.tstd_model.specs.Instants.{spaced, departures, departures_into}
use Rattle.tstd_model.specs.PacketBytes.{Arrival, Overhead, PesHeader, Data, parts_of, parts, arrives_in, arrives, kept, with_headers}
use Rattle.tstd_model.specs.Decoder.{BufferKind, Video, Audio, System, Removal, bytes_in, leave_tb, payload_passes, data_passes, removed, moves, eb_rooms, multiplexing_buffer, elementary_buffer}
use Rattle.tstd_model.specs.Faults.{TstdFault, Overflow, Late, Old, IsFirstOrNone}
use Rattle.tstd_model.specs.Private.Scans.{first_over, first_late, is_held, first_old, taken_from}
use Rattle.tstd_model.specs.Private.Walks.{IsEarliest, late_found, excess_found, old_found}
use Rattle.tstd_model.proofs.RisingLaws.{Rising}
use Rattle.tstd_model.proofs.FaultLaws.{first_fault-rises}

-- ---- the numbers of the decoder
video_tb_subticks : ◌≡◌ {A = ℕ} VIDEO_TB_SUBTICKS 11280
video_tb_subticks = refl

audio_tb_subticks : ◌≡◌ {A = ℕ} AUDIO_TB_SUBTICKS 101520
audio_tb_subticks = refl

system_tb_subticks : ◌≡◌ {A = ℕ} SYSTEM_TB_SUBTICKS 203040
system_tb_subticks = refl

mb_subticks : ◌≡◌ {A = ℕ} MB_SUBTICKS 13536
mb_subticks = refl

system_subticks : ◌≡◌ {A = ℕ} SYSTEM_SUBTICKS 2538000
system_subticks = refl

video_bytes : ◌≡◌ {A = ℕ} VIDEO_BYTES 239376
video_bytes = refl

eb_unit_bytes : ◌≡◌ {A = ℕ} EB_UNIT_BYTES 2048
eb_unit_bytes = refl

byte_of_slot_tick : ◌≡◌ {A = ℕ} BYTE_SUBTICKS_PER_TICK 5
byte_of_slot_tick = refl

-- ---- lists of instants
-- the second byte comes while the first is served, and the third when the server is free
served : departures 10 0 (5 ∷ 6 ∷ 40 ∷ []) ≡ 15 ∷ 25 ∷ 50 ∷ []
unfolding departures
served = refl

-- room for two; the third byte moves when a byte is removed, and the fourth never does
full_buffer : departures_into (0 ∷ 0 ∷ 100 ∷ []) 10 0 (5 ∷ 6 ∷ 7 ∷ 8 ∷ []) ≡ 15 ∷ 25 ∷ 100 ∷ []
unfolding departures_into
full_buffer = refl

-- two bytes of a PES header vanish with the byte of data behind them, and one without such a byte stays
vanished : with_headers (PesHeader ∷ PesHeader ∷ Data ∷ Overhead ∷ Data ∷ PesHeader ∷ []) (7 ∷ 9 ∷ []) ≡ 7 ∷ 7 ∷ 7 ∷ 9 ∷ []
unfolding with_headers
vanished = refl

-- ---- first faults
-- so many packets, one in each so many slots from slot 0 on, and their payload without PES headers
abbrev packets_each : (payload step first count : ℕ) → List Arrival
packets_each payload step first zero = []
packets_each payload step first (suc count) = record { slot_no = first; header = 0; payload = payload } ∷ packets_each payload step (first + step) count

abbrev pub packet : (slot_no header payload : ℕ) → List Arrival
packet slot_no header payload = record { slot_no = slot_no; header = header; payload = payload } ∷ []

abbrev pub removal : (due bytes : ℕ) → List Removal
removal due bytes = record { due = due; bytes = bytes } ∷ []

packets_each-rise : (payload step first count least : ℕ) → least ≤ first → 1 ≤ step → Rising least (map (λ a. a.slot_no) (packets_each payload step first count))
packets_each-rise payload step first zero least le apart = tt
packets_each-rise payload step first (suc count) least le apart = (le, packets_each-rise payload step (first + step) count (first + 1) (omega arith) apart)

then-rise : (payload step first count least slot_no header payload' : ℕ) → least ≤ first → 1 ≤ step → first + step * count ≤ slot_no
    → Rising least (map (λ a. a.slot_no) (packets_each payload step first count ++ packet slot_no header payload'))
then-rise payload step first zero least slot_no header payload' le apart last = (omega arith, tt)
then-rise payload step first (suc count) least slot_no header payload' le apart last =
    (le, then-rise payload step (first + step) count (first + 1) slot_no header payload' (omega arith) apart (omega arith))

-- what the walks find decides the first fault
abbrev pub Decided : (slot : ℕ) → BufferKind → List Arrival → List Removal → Option TstdFault → Type 0
Decided slot kind arrivals removals fault =
    IsEarliest (late_found slot kind arrivals removals) (excess_found slot kind arrivals removals) (old_found slot kind arrivals removals) fault

-- four full packets in a row: TB holds 393 bytes at most, and all is there in time
four_packets : IsFirstOrNone 1080 (Video 112) (packets_each 184 1 0 4) (removal 60000 736) None
unfolding first_over first_late is_held first_old taken_from spaced departures departures_into parts_of parts arrives_in arrives kept with_headers
    leave_tb payload_passes data_passes removed eb_rooms moves
four_packets = first_fault-rises 1080 (Video 112) (packets_each 184 1 0 4) (removal 60000 736) None (packets_each-rise 184 1 0 4 0 (omega arith) (omega arith)) (omega arith, tt) decided
  where
    decided : Decided 1080 (Video 112) (packets_each 184 1 0 4) (removal 60000 736) None
    decided = (refl, refl, refl)

-- eight of them: byte 41 of slot 5 is the 513th in TB
eight_packets : IsFirstOrNone 1080 (Video 112) (packets_each 184 1 0 8) (removal 60000 1472) (Some (Overflow 5297400))
unfolding first_over first_late is_held first_old taken_from spaced departures departures_into parts_of parts arrives_in arrives kept with_headers
    leave_tb payload_passes data_passes removed eb_rooms moves
eight_packets = first_fault-rises 1080 (Video 112) (packets_each 184 1 0 8) (removal 60000 1472) (Some (Overflow 5297400))
    (packets_each-rise 184 1 0 8 0 (omega arith) (omega arith)) (omega arith, tt) decided
  where
    decided : Decided 1080 (Video 112) (packets_each 184 1 0 8) (removal 60000 1472) (Some (Overflow 5297400))
    decided = (refl, tt, tt)

-- a byte that comes one tick before it is removed
removal_in_time : IsFirstOrNone 1128 Audio (packet 0 0 1) (removal 20305 1) None
unfolding first_over first_late is_held first_old taken_from spaced departures departures_into parts_of parts arrives_in arrives kept with_headers
    leave_tb payload_passes data_passes removed eb_rooms moves
removal_in_time = first_fault-rises 1128 Audio (packet 0 0 1) (removal 20305 1) None (omega arith, tt) (omega arith, tt) decided
  where
    decided : Decided 1128 Audio (packet 0 0 1) (removal 20305 1) None
    decided = (refl, refl, refl)

-- a removal at the very instant at which its byte comes finds nothing
removal_too_early : IsFirstOrNone 1128 Audio (packet 0 0 1) (removal 20304 1) (Some (Late 0))
unfolding first_over first_late is_held first_old taken_from spaced departures departures_into parts_of parts arrives_in arrives kept with_headers
    leave_tb payload_passes data_passes removed eb_rooms moves
removal_too_early = first_fault-rises 1128 Audio (packet 0 0 1) (removal 20304 1) (Some (Late 0)) (omega arith, tt) (omega arith, tt) decided
  where
    decided : Decided 1128 Audio (packet 0 0 1) (removal 20304 1) (Some (Late 0))
    decided = (record { at = 19085760; removal = 0 }, refl, refl, tt, tt)

-- a removal of two bytes, of which one comes
bytes_that_never_come : IsFirstOrNone 1128 Audio (packet 0 0 1) (removal 25000 2) (Some (Late 0))
unfolding first_over first_late is_held first_old taken_from spaced departures departures_into parts_of parts arrives_in arrives kept with_headers
    leave_tb payload_passes data_passes removed eb_rooms moves
bytes_that_never_come = first_fault-rises 1128 Audio (packet 0 0 1) (removal 25000 2) (Some (Late 0)) (omega arith, tt) (omega arith, tt) decided
  where
    decided : Decided 1128 Audio (packet 0 0 1) (removal 25000 2) (Some (Late 0))
    decided = (record { at = 23500000; removal = 0 }, refl, refl, tt, tt)

-- a byte that is held a second exactly
held_a_second : IsFirstOrNone 1128 Audio (packet 0 0 1) (removal 27001122 1) None
unfolding first_over first_late is_held first_old taken_from spaced departures departures_into parts_of parts arrives_in arrives kept with_headers
    leave_tb payload_passes data_passes removed eb_rooms moves
held_a_second = first_fault-rises 1128 Audio (packet 0 0 1) (removal 27001122 1) None (omega arith, tt) (omega arith, tt) decided
  where
    decided : Decided 1128 Audio (packet 0 0 1) (removal 27001122 1) None
    decided = (refl, refl, refl)

-- one that is held a tick longer, found at the first subtick past the limit
held_longer : IsFirstOrNone 1128 Audio (packet 0 0 1) (removal 27001123 1) (Some (Old 25381054681))
unfolding first_over first_late is_held first_old taken_from spaced departures departures_into parts_of parts arrives_in arrives kept with_headers
    leave_tb payload_passes data_passes removed eb_rooms moves
held_longer = first_fault-rises 1128 Audio (packet 0 0 1) (removal 27001123 1) (Some (Old 25381054681)) (omega arith, tt) (omega arith, tt) decided
  where
    decided : Decided 1128 Audio (packet 0 0 1) (removal 27001123 1) (Some (Old 25381054681))
    decided = (refl, tt, tt)

-- one that is never removed
never_removed : IsFirstOrNone 1128 Audio (packet 0 0 1) [] (Some (Old 25381054681))
unfolding first_over first_late is_held first_old taken_from spaced departures departures_into parts_of parts arrives_in arrives kept with_headers
    leave_tb payload_passes data_passes removed eb_rooms moves
never_removed = first_fault-rises 1128 Audio (packet 0 0 1) [] (Some (Old 25381054681)) (omega arith, tt) tt decided
  where
    decided : Decided 1128 Audio (packet 0 0 1) [] (Some (Old 25381054681))
    decided = (refl, tt, tt)

-- a byte of a PES header may stay
header_never_removed : IsFirstOrNone 1128 Audio (packet 0 1 1) [] None
unfolding first_over first_late is_held first_old taken_from spaced departures departures_into parts_of parts arrives_in arrives kept with_headers
    leave_tb payload_passes data_passes removed eb_rooms moves
header_never_removed = first_fault-rises 1128 Audio (packet 0 1 1) [] None (omega arith, tt) tt decided
  where
    decided : Decided 1128 Audio (packet 0 1 1) [] None
    decided = (refl, refl, refl)

-- a removal that finds too little at the instant at which TB is over its size: the removal is said
late_goes_first : IsFirstOrNone 1128 (Video 112) (packets_each 184 1 0 8) (removal 6138 1472) (Some (Late 0))
unfolding first_over first_late is_held first_old taken_from spaced departures departures_into parts_of parts arrives_in arrives kept with_headers
    leave_tb payload_passes data_passes removed eb_rooms moves
late_goes_first = first_fault-rises 1128 (Video 112) (packets_each 184 1 0 8) (removal 6138 1472) (Some (Late 0)) (packets_each-rise 184 1 0 8 0 (omega arith) (omega arith)) (omega arith, tt) decided
  where
    decided : Decided 1128 (Video 112) (packets_each 184 1 0 8) (removal 6138 1472) (Some (Late 0))
    decided = (record { at = 5769720; removal = 0 }, refl, refl, omega arith, tt)

-- one tick later: TB
overflow_before_late : IsFirstOrNone 1128 (Video 112) (packets_each 184 1 0 8) (removal 6139 1472) (Some (Overflow 5769720))
unfolding first_over first_late is_held first_old taken_from spaced departures departures_into parts_of parts arrives_in arrives kept with_headers
    leave_tb payload_passes data_passes removed eb_rooms moves
overflow_before_late = first_fault-rises 1128 (Video 112) (packets_each 184 1 0 8) (removal 6139 1472) (Some (Overflow 5769720))
    (packets_each-rise 184 1 0 8 0 (omega arith) (omega arith)) (omega arith, tt) decided
  where
    decided : Decided 1128 (Video 112) (packets_each 184 1 0 8) (removal 6139 1472) (Some (Overflow 5769720))
    decided = (refl, omega arith, tt)

-- nine packets of sections: the main buffer leaks enough
system_full : IsFirstOrNone 1080 System (packets_each 184 38 0 9) [] None
unfolding first_over first_late is_held first_old taken_from spaced departures departures_into parts_of parts arrives_in arrives kept with_headers
    leave_tb payload_passes data_passes removed eb_rooms moves
system_full = first_fault-rises 1080 System (packets_each 184 38 0 9) [] None (packets_each-rise 184 38 0 9 0 (omega arith) (omega arith)) tt decided
  where
    decided : Decided 1080 System (packets_each 184 38 0 9) [] None
    decided = (refl, refl, refl)

-- the tenth is too much for it
system_over : IsFirstOrNone 1080 System (packets_each 184 38 0 10) [] (Some (Overflow 351868320))
unfolding first_over first_late is_held first_old taken_from spaced departures departures_into parts_of parts arrives_in arrives kept with_headers
    leave_tb payload_passes data_passes removed eb_rooms moves
system_over = first_fault-rises 1080 System (packets_each 184 38 0 10) [] (Some (Overflow 351868320)) (packets_each-rise 184 38 0 10 0 (omega arith) (omega arith)) tt decided
  where
    decided : Decided 1080 System (packets_each 184 38 0 10) [] (Some (Overflow 351868320))
    decided = (refl, tt, tt)

-- audio's main buffer with all its 3,584 bytes
audio_full : IsFirstOrNone 1080 Audio (packets_each 184 19 0 19 ++ packet 361 0 88) (removal 500000 3584) None
unfolding first_over first_late is_held first_old taken_from spaced departures departures_into parts_of parts arrives_in arrives kept with_headers
    leave_tb payload_passes data_passes removed eb_rooms moves
audio_full = first_fault-rises 1080 Audio (packets_each 184 19 0 19 ++ packet 361 0 88) (removal 500000 3584) None
    (then-rise 184 19 0 19 0 361 0 88 (omega arith) (omega arith) (omega arith)) (omega arith, tt) decided
  where
    decided : Decided 1080 Audio (packets_each 184 19 0 19 ++ packet 361 0 88) (removal 500000 3584) None
    decided = (refl, refl, refl)

-- one byte more
audio_over : IsFirstOrNone 1080 Audio (packets_each 184 19 0 19 ++ packet 361 0 89) (removal 500000 3585) (Some (Overflow 385572960))
unfolding first_over first_late is_held first_old taken_from spaced departures departures_into parts_of parts arrives_in arrives kept with_headers
    leave_tb payload_passes data_passes removed eb_rooms moves
audio_over = first_fault-rises 1080 Audio (packets_each 184 19 0 19 ++ packet 361 0 89) (removal 500000 3585) (Some (Overflow 385572960))
    (then-rise 184 19 0 19 0 361 0 89 (omega arith) (omega arith) (omega arith)) (omega arith, tt) decided
  where
    decided : Decided 1080 Audio (packets_each 184 19 0 19 ++ packet 361 0 89) (removal 500000 3585) (Some (Overflow 385572960))
    decided = (refl, tt, tt)

-- where nothing is removed, EB of 2,048 bytes fills, and the other 160 bytes wait in MB
eb_fills : bytes_in (elementary_buffer 2000 1 (packets_each 184 1 0 12) []) 100000000 ≡ 2048
unfolding first_over first_late is_held first_old taken_from spaced departures departures_into parts_of parts arrives_in arrives kept with_headers
    leave_tb payload_passes data_passes removed eb_rooms moves
eb_fills = refl

mb_waits : bytes_in (multiplexing_buffer 2000 1 (packets_each 184 1 0 12) []) 100000000 ≡ 160
unfolding first_over first_late is_held first_old taken_from spaced departures departures_into parts_of parts arrives_in arrives kept with_headers
    leave_tb payload_passes data_passes removed eb_rooms moves
mb_waits = refl
