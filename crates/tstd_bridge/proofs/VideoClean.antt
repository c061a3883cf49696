-- The decoder of a video stream has no fault.
use Rattle.std.proofs.Common.{◌≡◌, ℕ, zero, suc, ◌+◌, ◌-◌, ◌*◌, ◌<◌, ◌≤◌, List, [], ◌∷◌, ◌++◌, length, map, replicate, take, sum_by, slice_get, Some, sym, ap, subst, ◌∙◌, arith}
use Rattle.std.specs.List.{AllZip}
use Rattle.std.proofs.lemmas.Option.{same_Some, none-some}
use Rattle.stream_constants.specs.declared.clock.TheConstants.{SUBTICKS_PER_TICK}
use Rattle.stream_constants.specs.declared.packets.TheConstants.{PAYLOAD_BYTES}
use Rattle.stream_constants.specs.declared.decoder.TheConstants.{MB_SUBTICKS, VIDEO_BYTES, VIDEO_TB_SUBTICKS}
use Rattle.version_table.specs.declared.table.Table.{Table}
use Rattle.version_table.specs.Choice.{Fits}
use Rattle.version_table.specs.Table.{IsValidTable}
use Rattle.slot_rule.specs.declared.queue_kind.QueueKind.TheVariants.{Video}
use Rattle.slot_rule.specs.declared.queued_packet.QueuedPacket.{QueuedPacket}
use Rattle.slot_rule.specs.declared.row.Row.{Row}
use Rattle.slot_rule.specs.Queues.{queues_of}
use Rattle.slot_rule.specs.Schedule.{IsSchedule}
use Rattle.slot_rule.proofs.RuleSent.{packets_sent}
use Rattle.tstd_model.specs.declared.decoder_input.BufferKind.TheVariants.{Video as VideoBuffers}
use Rattle.tstd_model.specs.declared.decoder_input.Removal.{Removal}
use Rattle.tstd_model.specs.declared.fault.TstdFault.{TstdFault}
use Rattle.tstd_model.specs.declared.fault.TstdFault.TheVariants.{Overflow, Late, Old}
use Rattle.tstd_model.specs.Instants.{departures, came, came_before}
use Rattle.tstd_model.specs.PacketBytes.{parts, with_headers}
use Rattle.tstd_model.specs.Decoder.{DecoderBuffer, IsOverfull, transport_buffer, multiplexing_buffer, elementary_buffer, payload_passes, data_passes, leave_tb, moves, eb_rooms, eb_bytes, removed}
use Rattle.tstd_model.specs.Faults.{IsFault, FindsLess}
use Rattle.tstd_model.proofs.Counts.{Spaced-rises, came-within}
use Rattle.tstd_model.proofs.FaultLaws.{eb_never_over}
use Rattle.tstd_model.proofs.RisingLaws.{Spaced-from_order, removed-rises}
use Rattle.tstd_model.proofs.Server.{departures-spaced, length-departures}
use Rattle.tstd_bridge.specs.Arrivals.{Headers, arrivals_from}
use Rattle.tstd_bridge.specs.Removals.{AreWithin, LeaveData, wanted_of_each, gone_of_each, IsAllowed}
use Rattle.tstd_bridge.proofs.ArrivalRows.{bytes_come}
use Rattle.tstd_bridge.proofs.AudioB.{passes, EachWithin-from_all}
use Rattle.tstd_bridge.proofs.AudioTimes.{all_sent}
use Rattle.tstd_bridge.proofs.EbRooms.{departures_into-room, have_room}
use Rattle.tstd_bridge.proofs.Levels.{video_level}
use Rattle.tstd_bridge.proofs.MbFree.{IsFreeSoon, free_soon}
use Rattle.tstd_bridge.proofs.MbHeaders.{headers_behind}
use Rattle.tstd_bridge.proofs.MbHolds.{mb_held}
use Rattle.tstd_bridge.proofs.TbFollows.{finds_little}
use Rattle.tstd_bridge.proofs.TbHolds.{tb_holds}
use Rattle.tstd_bridge.proofs.VideoData.{data_goes, free_moves}
use Rattle.tstd_bridge.proofs.VideoHeld.{video_not_old}
use Rattle.tstd_bridge.proofs.VideoMoves.{IsInTime, in_time}
use Rattle.tstd_bridge.proofs.ZipLaws.{zip_before-then, came-before, taken-by}

pub AreWithin-from_data : (headers : Headers) (packets : List QueuedPacket) → LeaveData headers packets → AreWithin headers packets
AreWithin-from_data headers packets leave = λ k d within. omega (arith, leave k d within)

-- no more data would have moved than EB has room for
not_past_eb : (x slot stream program vbv : ℕ) (headers : Headers) (packets : List QueuedPacket) (rows : List Row) (removals : List Removal) → packets_sent stream rows ≡ packets
    → IsAllowed (Video program vbv) headers packets removals → IsInTime slot stream program vbv headers rows
    → came x (free_moves slot stream program vbv headers rows) ≤ eb_bytes vbv + came x (removed removals)
not_past_eb x slot stream program vbv headers packets rows removals sent allowed times =
    let zeroth : x + 0 ≡ x = omega arith in
    let within : came x (gone_of_each (Video program vbv) headers packets) ≤ came x (removed removals) =
    subst (λ y. came x (gone_of_each (Video program vbv) headers packets) ≤ came y (removed removals)) zeroth
    (came-within 0 x (gone_of_each (Video program vbv) headers packets) (removed removals) (EachWithin-from_all (removed removals) (gone_of_each (Video program vbv) headers packets) allowed.gone)) in
    let held : came x (free_moves slot stream program vbv headers rows) ≤ eb_bytes vbv + came x (gone_of_each (Video program vbv) headers packets) =
    subst (λ ps. came x (free_moves slot stream program vbv headers rows) ≤ eb_bytes vbv + came x (gone_of_each (Video program vbv) headers ps)) sent (times.held x) in
    omega (arith, held, within)

-- so data moves as if EB always had room
moves_are : (slot stream program vbv : ℕ) (headers : Headers) (packets : List QueuedPacket) (rows : List Row) (removals : List Removal) → packets_sent stream rows ≡ packets
    → IsAllowed (Video program vbv) headers packets removals → IsInTime slot stream program vbv headers rows
    → moves slot vbv (arrivals_from 0 stream (Video program vbv) headers rows) removals ≡ free_moves slot stream program vbv headers rows
unfolding moves eb_rooms data_passes leave_tb
moves_are slot stream program vbv headers packets rows removals sent allowed times =
    let data_in = data_goes slot stream program vbv headers rows in
    let us = free_moves slot stream program vbv headers rows in
    departures_into-room MB_SUBTICKS 0 (replicate (eb_bytes vbv) 0 ++ removed removals) data_in
    (have_room (eb_bytes vbv) 0 (SUBTICKS_PER_TICK * 0) (removed removals) us
    (Spaced-rises MB_SUBTICKS 0 0 us (omega arith) (departures-spaced MB_SUBTICKS 0 data_in))
    (removed-rises 0 removals (Spaced-from_order (map (λ (r : Removal). r.due) removals) allowed.in_order))
    (λ x. not_past_eb x slot stream program vbv headers packets rows removals sent allowed times))

mb_holds : (table : Table) (choice : List ℕ) (stream program vbv : ℕ) (packets : List QueuedPacket) (headers : Headers) (rows : List Row) (removals : List Removal) (at : ℕ)
    → IsValidTable table → Fits table choice → IsSchedule table choice rows
    → slice_get (queues_of table choice) stream ≡ Some (record { kind = Video program vbv; packets = packets }) → AreWithin headers packets
    → moves table.slot vbv (arrivals_from 0 stream (Video program vbv) headers rows) removals ≡ free_moves table.slot stream program vbv headers rows
    → IsInTime table.slot stream program vbv headers rows
    → IsOverfull (multiplexing_buffer table.slot vbv (arrivals_from 0 stream (Video program vbv) headers rows) removals) at → ⊥
unfolding payload_passes leave_tb
mb_holds table choice stream program vbv packets headers rows removals at valid fits schedule there within same times over =
    let arrivals = arrivals_from 0 stream (Video program vbv) headers rows in
    let leave = departures VIDEO_TB_SUBTICKS 0 (bytes_come table.slot stream (Video program vbv) headers rows) in
    let soon : IsFreeSoon table.slot stream program vbv headers rows = free_soon table choice stream program vbv packets headers rows valid fits there within schedule.follows in
    let as_many : length (parts arrivals) ≡ length leave = soon.has ∙ sym (length-departures VIDEO_TB_SUBTICKS 0 (bytes_come table.slot stream (Video program vbv) headers rows)) in
    let behind : 0 + came at (departures MB_SUBTICKS 0 (passes table.slot stream (Video program vbv) headers rows))
    ≤ PAYLOAD_BYTES + came at (with_headers (parts arrivals) (free_moves table.slot stream program vbv headers rows)) =
    headers_behind PAYLOAD_BYTES MB_SUBTICKS at 0 0 0 (parts arrivals) leave times.behind as_many (omega arith) (omega arith) in
    let over' : VIDEO_BYTES - eb_bytes vbv
    < came at (passes table.slot stream (Video program vbv) headers rows) - came at (with_headers (parts arrivals) (moves table.slot vbv arrivals removals)) = over in
    let outs : came at (with_headers (parts arrivals) (moves table.slot vbv arrivals removals)) ≡ came at (with_headers (parts arrivals) (free_moves table.slot stream program vbv headers rows)) =
    ap (λ ms. came at (with_headers (parts arrivals) ms)) same in
    omega (
      arith,
      over',
      outs,
      behind,
      video_level table choice stream program vbv packets valid there,
      mb_held table choice stream program vbv packets headers rows at valid fits schedule.follows there within,
    )

video_in_time : (table : Table) (choice : List ℕ) (stream program vbv : ℕ) (packets : List QueuedPacket) (headers : Headers) (rows : List Row) (removals : List Removal) (number : ℕ)
    → packets_sent stream rows ≡ packets → IsAllowed (Video program vbv) headers packets removals
    → moves table.slot vbv (arrivals_from 0 stream (Video program vbv) headers rows) removals ≡ free_moves table.slot stream program vbv headers rows
    → IsInTime table.slot stream program vbv headers rows
    → FindsLess table.slot (VideoBuffers vbv) (arrivals_from 0 stream (Video program vbv) headers rows) removals number → ⊥
video_in_time table choice stream program vbv packets headers rows removals number sent allowed same times less =
    let arrivals = arrivals_from 0 stream (Video program vbv) headers rows in
    let us = free_moves table.slot stream program vbv headers rows in
    let early : AllZip (λ move wanted. move < wanted) us (wanted_of_each (Video program vbv) headers packets) =
    subst (λ ps. AllZip (λ move wanted. move < wanted) (free_moves table.slot stream program vbv headers rows) (wanted_of_each (Video program vbv) headers ps)) sent times.early in
    let x = SUBTICKS_PER_TICK * less.removal.due in
    let before : came x (removed removals) ≤ came_before x us =
    came-before x us (removed removals) (zip_before-then us (wanted_of_each (Video program vbv) headers packets) (removed removals) early allowed.wanted) in
    let fewer : came_before x (moves table.slot vbv arrivals removals) < sum_by (λ r. r.bytes) (take (number + 1) removals) = less.fewer in
    let moved : came_before x (moves table.slot vbv arrivals removals) ≡ came_before x us = ap (λ ms. came_before x ms) same in
    let taken : sum_by (λ r. r.bytes) (take (suc number) removals) ≤ came x (removed removals) =
    taken-by 0 number removals less.removal (Spaced-from_order (map (λ r. r.due) removals) allowed.in_order) less.one_of in
    let next : number + 1 ≡ suc number = omega arith in
    let fewer' : came_before x (moves table.slot vbv arrivals removals) < sum_by (λ r. r.bytes) (take (suc number) removals) =
    subst (λ n. came_before x (moves table.slot vbv arrivals removals) < sum_by (λ (r : Removal). r.bytes) (take n removals)) next fewer in
    omega (arith, fewer', moved, taken, before)

-- a buffer of a video decoder is TB, MB or EB
one_of_three : (tb mb eb : DecoderBuffer) (at place : ℕ) (buffer : DecoderBuffer) → (IsOverfull tb at → ⊥) → (IsOverfull mb at → ⊥) → (IsOverfull eb at → ⊥)
    → slice_get (tb ∷ mb ∷ eb ∷ []) place ≡ Some buffer → IsOverfull buffer at → ⊥
one_of_three tb mb eb at zero buffer first second third there over = first (subst (λ x. IsOverfull x at) (sym (same_Some tb buffer there)) over)
one_of_three tb mb eb at (suc zero) buffer first second third there over = second (subst (λ x. IsOverfull x at) (sym (same_Some mb buffer there)) over)
one_of_three tb mb eb at (suc (suc zero)) buffer first second third there over = third (subst (λ x. IsOverfull x at) (sym (same_Some eb buffer there)) over)
one_of_three tb mb eb at (suc (suc (suc place))) buffer first second third there over = none-some buffer there

pub video_clean : (table : Table) (choice : List ℕ) (rows : List Row) (stream program vbv : ℕ) (packets : List QueuedPacket) (headers : Headers) (removals : List Removal) (fault : TstdFault)
    → IsValidTable table → Fits table choice → IsSchedule table choice rows
    → slice_get (queues_of table choice) stream ≡ Some (record { kind = Video program vbv; packets = packets })
    → LeaveData headers packets → IsAllowed (Video program vbv) headers packets removals
    → IsFault table.slot (VideoBuffers vbv) (arrivals_from 0 stream (Video program vbv) headers rows) removals fault → ⊥
video_clean table choice rows stream program vbv packets headers removals (Overflow at) valid fits schedule there leave allowed is =
    let arrivals = arrivals_from 0 stream (Video program vbv) headers rows in
    let within : AreWithin headers packets = AreWithin-from_data headers packets leave in
    let times : IsInTime table.slot stream program vbv headers rows = in_time table choice stream program vbv packets headers rows valid fits there within leave schedule.follows schedule.in_time in
    let sent : packets_sent stream rows ≡ packets = all_sent table choice stream (Video program vbv) packets rows there schedule.follows schedule.sent in
    one_of_three (transport_buffer table.slot (VideoBuffers vbv) arrivals) (multiplexing_buffer table.slot vbv arrivals removals)
    (elementary_buffer table.slot vbv arrivals removals) at is.place is.buffer
    (tb_holds table.slot stream (Video program vbv) headers rows (finds_little table choice stream (Video program vbv) packets rows valid there schedule.follows) at)
    (mb_holds table choice stream program vbv packets headers rows removals at valid fits schedule there within
    (moves_are table.slot stream program vbv headers packets rows removals sent allowed times) times)
    (eb_never_over table.slot vbv arrivals removals at)
    is.one_of is.over
video_clean table choice rows stream program vbv packets headers removals (Late number) valid fits schedule there leave allowed is =
    let within : AreWithin headers packets = AreWithin-from_data headers packets leave in
    let times : IsInTime table.slot stream program vbv headers rows = in_time table choice stream program vbv packets headers rows valid fits there within leave schedule.follows schedule.in_time in
    let sent : packets_sent stream rows ≡ packets = all_sent table choice stream (Video program vbv) packets rows there schedule.follows schedule.sent in
    video_in_time table choice stream program vbv packets headers rows removals number sent allowed
    (moves_are table.slot stream program vbv headers packets rows removals sent allowed times) times is
video_clean table choice rows stream program vbv packets headers removals (Old at) valid fits schedule there leave allowed is =
    video_not_old table choice stream program vbv packets headers rows removals at valid fits schedule there (AreWithin-from_data headers packets leave) allowed is
