-- A decoder's instants fit 64 bits.
use Rattle.std.proofs.Common.{ℕ, ◌*◌, ◌^◌, ◌<◌, ◌≤◌, List, length, map, arith, All}
use Rattle.std.proofs.lemmas.Nat.{mul-le}
use Rattle.std.specs.List.Sorted.{IsStrictlyIncreasing}
use Rattle.stream_constants.specs.declared.clock.TheConstants.{SUBTICKS_PER_TICK}
use Rattle.stream_constants.specs.declared.decoder.TheConstants.{MB_SUBTICKS, SYSTEM_SUBTICKS}
use Rattle.stream_constants.specs.declared.packets.TheConstants.{PACKET_BYTES}
use Rattle.tstd_model.specs.Instants.{departures}
use Rattle.tstd_model.specs.PacketBytes.{Arrival, is_payload, is_data, parts, byte_subticks, arrives}
use Rattle.tstd_model.specs.Decoder.{BufferKind, Video, Audio, System, Removal, tb_subticks, leave_tb, payload_passes, data_passes, removed, eb_bytes, eb_rooms, moves}
use Rattle.tstd_model.specs.Private.Server.{EachAtMost}
use Rattle.tstd_model.proofs.RisingLaws.{Rising-from}
use Rattle.tstd_model.proofs.Bounds.{EachAtMost-more, arrives-most, length-arrives, length-rising, length-kept, kept-most, departures-most, departures_into-most, removed-most, rooms-most}
use Rattle.tstd_model.proofs.Server.{length-departures}

module _ (slot : ℕ) (arrivals : List Arrival) (slot_fits : slot ≤ 2 ^ 16) (rise : IsStrictlyIncreasing (map (λ a. a.slot_no) arrivals)) (fit : All (λ a. a.slot_no < 2 ^ 32) arrivals) where
  few_bytes : length (arrives slot arrivals) ≤ 188 * 2 ^ 32
  few_bytes = omega (arith, length-arrives slot arrivals, length-rising 0 (2 ^ 32) arrivals (omega arith) (Rising-from (map (λ a. a.slot_no) arrivals) rise) fit)

  arrive_by : EachAtMost (PACKET_BYTES * 2 ^ 32 * byte_subticks slot) (arrives slot arrivals)
  arrive_by = arrives-most slot (2 ^ 32) arrivals fit

  pub arrive_in_time : EachAtMost (2 ^ 62) (arrives slot arrivals)
  arrive_in_time = EachAtMost-more (PACKET_BYTES * 2 ^ 32 * byte_subticks slot) (2 ^ 62) (arrives slot arrivals) (omega arith) arrive_by

  leaves_by : (s : ℕ) → s ≤ 203040 → EachAtMost (2 ^ 62) (departures s 0 (arrives slot arrivals))
  leaves_by s le =
      let most = PACKET_BYTES * 2 ^ 32 * byte_subticks slot in
      let served : s * length (arrives slot arrivals) ≤ 203040 * (188 * 2 ^ 32) = mul-le s (length (arrives slot arrivals)) 203040 (188 * 2 ^ 32) le few_bytes in
      departures-most s 0 most (2 ^ 62) (arrives slot arrivals) (omega arith) arrive_by (omega arith)

  pub tb_in_time : (kind : BufferKind) → EachAtMost (2 ^ 62) (leave_tb slot kind arrivals)
  unfolding leave_tb
  tb_in_time (Video vbv) = leaves_by (tb_subticks (Video vbv)) (omega arith)
  tb_in_time Audio = leaves_by (tb_subticks Audio) (omega arith)
  tb_in_time System = leaves_by (tb_subticks System) (omega arith)

  few_leave : (kind : BufferKind) → length (leave_tb slot kind arrivals) ≤ 188 * 2 ^ 32
  unfolding leave_tb
  few_leave kind = omega (arith, length-departures (tb_subticks kind) 0 (arrives slot arrivals), few_bytes)

  pub system_in_time : EachAtMost (2 ^ 63) (departures SYSTEM_SUBTICKS 0 (payload_passes slot System arrivals))
  unfolding payload_passes
  system_in_time =
      departures-most SYSTEM_SUBTICKS 0 (2 ^ 62) (2 ^ 63) (payload_passes slot System arrivals) (omega arith)
      (kept-most (2 ^ 62) is_payload (parts arrivals) (leave_tb slot System arrivals) (tb_in_time System))
      (omega (arith, length-kept is_payload (parts arrivals) (leave_tb slot System arrivals), few_leave System))

  pub moves_in_time : (vbv : ℕ) (removals : List Removal) → All (λ r. r.due ≤ 2 ^ 53) removals → EachAtMost (2 ^ 63) (moves slot vbv arrivals removals)
  unfolding moves data_passes eb_rooms
  moves_in_time vbv removals dues =
      let most = SUBTICKS_PER_TICK * 2 ^ 53 in
      departures_into-most MB_SUBTICKS 0 most (2 ^ 63) (eb_rooms vbv removals) (data_passes slot (Video vbv) arrivals) (omega arith)
      (rooms-most most (eb_bytes vbv) (removed removals) (removed-most (2 ^ 53) removals dues))
      (EachAtMost-more (2 ^ 62) most (data_passes slot (Video vbv) arrivals) (omega arith) (kept-most (2 ^ 62) is_data (parts arrivals) (leave_tb slot (Video vbv) arrivals) (tb_in_time (Video vbv))))
      (omega (arith, length-kept is_data (parts arrivals) (leave_tb slot (Video vbv) arrivals), few_leave (Video vbv)))
