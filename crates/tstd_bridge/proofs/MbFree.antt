-- MB of video, served as if EB always had room, is free soon after the work that the slot rule counts there.
use Rattle.std.proofs.Common.{◌≡◌, ℕ, ◌+◌, ◌-◌, ◌*◌, ◌%◌, ◌≤◌, eqb, eq-eqb, List, [], ◌∷◌, ◌++◌, length, count_by, slice_get, Some, refl, sym, ap, subst, ◌∙◌, inl, inr, arith}
use Rattle.std.proofs.lemmas.Bool.{cases_Bool, eqb-true, eqb-false, cond-true}
use Rattle.std.proofs.lemmas.List.{length_push}
use Rattle.std.proofs.lemmas.Option.{same_Some}
use Rattle.stream_constants.specs.declared.packets.TheConstants.{PACKET_BYTES, PAYLOAD_BYTES}
use Rattle.stream_constants.specs.declared.decoder.TheConstants.{VIDEO_TB_SUBTICKS, MB_SUBTICKS}
use Rattle.version_table.specs.declared.table.Table.{Table}
use Rattle.version_table.specs.Choice.{Fits}
use Rattle.version_table.specs.Table.{IsValidTable}
use Rattle.slot_rule.specs.declared.queue_kind.QueueKind.TheVariants.{Video}
use Rattle.slot_rule.specs.declared.queued_packet.QueuedPacket.{QueuedPacket}
use Rattle.slot_rule.specs.declared.row.Row.{Row}
use Rattle.slot_rule.specs.declared.row.Row.TheVariants.{Reserved, Carries, Empty}
use Rattle.slot_rule.specs.declared.sent.Sent.TheVariants.{Null, Pat, Pmt, Pcr, Video as VideoPiece, Audio as AudioPiece}
use Rattle.slot_rule.specs.Queues.{Queue, queues_of}
use Rattle.slot_rule.specs.Buffers.{packets_in, payload_in, slot_subticks, tb_work, mb_work, is_of}
use Rattle.slot_rule.specs.Schedule.{Goes, FollowRule}
use Rattle.slot_rule.proofs.Places.{All-at_place}
use Rattle.slot_rule.proofs.RuleFronts.{by_push}
use Rattle.slot_rule.proofs.RuleQueues.{IsLimited, IsHead-limited}
use Rattle.slot_rule.proofs.RuleRows.{IsNext, FollowRule-front, FollowRule-last}
use Rattle.slot_rule.proofs.RuleWork.{mb_work-push, packets_in-carried, packets_in-other, packets_in-pcr, packets_in-other_pcr, payload_in-carried, payload_in-other}
use Rattle.tstd_model.specs.Instants.{spaced, departures, came}
use Rattle.tstd_model.specs.PacketBytes.{HasHeaderWithin, byte_subticks, parts_of, parts, is_payload, kept, arrives}
use Rattle.tstd_model.specs.Decoder.{bytes_in, payload_passes, leave_tb}
use Rattle.tstd_model.specs.Private.Server.{last_departure}
use Rattle.tstd_model.proofs.Counts.{came-length}
use Rattle.tstd_model.proofs.RisingLaws.{length-spaced}
use Rattle.tstd_model.proofs.Server.{last_departure-append, length-departures}
use Rattle.tstd_bridge.specs.Arrivals.{Headers, header_in, arrivals_from}
use Rattle.tstd_bridge.specs.Mb.{mb_delay, free_running_mb}
use Rattle.tstd_bridge.specs.Removals.{AreWithin}
use Rattle.tstd_bridge.proofs.ArrivalRows.{arrival_of}
use Rattle.tstd_bridge.proofs.AudioB.{passes, packet_passes, HasParts, passes-none, passes-one, has_parts-none, has_parts-one}
use Rattle.tstd_bridge.proofs.KeptBytes.{length-kept_whole}
use Rattle.tstd_bridge.proofs.MbService.{IsServed, last_departure-kept, came-all}
use Rattle.slot_rule.specs.Timetable.{period}
use Rattle.tstd_bridge.proofs.PcrPlaces.{IsPcrPlace, pcr_place}
use Rattle.tstd_bridge.proofs.TbFollows.{carried_gate, video_room, video_room_after}
use Rattle.tstd_bridge.proofs.TbWork.{tb_free, tb_free-most}
use Rattle.tstd_bridge.proofs.ZipLaws.{departures-by}

-- when MB is free after the rows, where headers take as long as data
abbrev pub mb_free : (slot stream program vbv : ℕ) → Headers → List Row → ℕ
mb_free slot stream program vbv headers rows = last_departure MB_SUBTICKS 0 (passes slot stream (Video program vbv) headers rows)

pub record IsFreeSoon (slot stream program vbv : ℕ) (headers : Headers) (rows : List Row) : Type 0 where
  pub has : HasParts slot stream (Video program vbv) headers rows
  pub free : mb_free slot stream program vbv headers rows ≤ length rows * slot_subticks slot + mb_work slot stream rows + mb_delay

free-nil : (slot stream program vbv : ℕ) (headers : Headers) → IsFreeSoon slot stream program vbv headers []
unfolding arrivals_from parts arrives kept last_departure
free-nil slot stream program vbv headers = record { has = refl; free = omega arith }

free-none : (slot stream program vbv : ℕ) (headers : Headers) (rows : List Row) (row : Row) → packets_in stream (Video program vbv) row ≡ 0 → payload_in stream row ≡ 0
    → IsFreeSoon slot stream program vbv headers rows → IsFreeSoon slot stream program vbv headers (rows ++ row ∷ [])
free-none slot stream program vbv headers rows row none no_payload before =
    let work : mb_work slot stream (rows ++ row ∷ []) ≡ mb_work slot stream rows - slot_subticks slot = rw (mb_work-push slot stream rows row, no_payload) (omega arith) in
    record {
      has = has_parts-none slot stream (Video program vbv) headers rows row none before.has;
      free = rw (passes-none slot stream (Video program vbv) headers rows row none, length_push rows row) (omega (arith, before.free, work));
    }

free-one : (slot stream program vbv : ℕ) (headers : Headers) (rows : List Row) (row : Row) → packets_in stream (Video program vbv) row ≡ 1
    → payload_in stream row ≤ PAYLOAD_BYTES → HasHeaderWithin (arrival_of stream (length rows) headers row)
    → tb_free slot stream (Video program vbv) headers rows + PACKET_BYTES * VIDEO_TB_SUBTICKS ≤ length rows * slot_subticks slot + mb_delay
    → IsFreeSoon slot stream program vbv headers rows → IsFreeSoon slot stream program vbv headers (rows ++ row ∷ [])
free-one slot stream program vbv headers rows row one small fits quick before =
    let t = VIDEO_TB_SUBTICKS in
    let start = PACKET_BYTES * length rows * byte_subticks slot in
    let step = byte_subticks slot in
    let payload = payload_in stream row in
    let arrival = arrival_of stream (length rows) headers row in
    let come = spaced start step PACKET_BYTES in
    let tb = tb_free slot stream (Video program vbv) headers rows in
    let busy = length rows * slot_subticks slot + mb_delay in
    let end = start + step * PACKET_BYTES in
    let most = (length rows + 1) * slot_subticks slot + mb_work slot stream (rows ++ row ∷ []) + mb_delay in
    let free = mb_free slot stream program vbv headers rows in
    let own = packet_passes slot stream (Video program vbv) headers rows row in
    let work : mb_work slot stream (rows ++ row ∷ []) ≡ (mb_work slot stream rows + MB_SUBTICKS * payload) - slot_subticks slot = mb_work-push slot stream rows row in
    let served : IsServed t tb start step PACKET_BYTES busy end = (inl (omega (arith, quick)), λ _. omega arith, omega arith) in
    let leave_all : length (departures t tb come) ≡ PACKET_BYTES = length-departures t tb come ∙ length-spaced start step PACKET_BYTES in
    let as_many : length own ≡ payload = length-kept_whole arrival (departures t tb come) fits leave_all in
    let after : last_departure MB_SUBTICKS free own ≤ most =
    last_departure-kept is_payload (parts_of arrival) MB_SUBTICKS free t tb start step PACKET_BYTES busy end payload most served as_many
    (omega (arith, before.free, work)) (omega (arith, work)) (omega (arith, work, small)) in
    record {
      has = has_parts-one slot stream (Video program vbv) headers rows row one fits before.has;
      free = rw (
        passes-one slot stream (Video program vbv) headers rows row one before.has,
        last_departure-append MB_SUBTICKS 0 (passes slot stream (Video program vbv) headers rows) own,
        length_push rows row,
      ) after;
    }

free-carried : (table : Table) (choice : List ℕ) (stream s program vbv : ℕ) (packets : List QueuedPacket) (headers : Headers) (rows : List Row)
    (packet : QueuedPacket) → IsValidTable table → Fits table choice
    → slice_get (queues_of table choice) stream ≡ Some (record { kind = Video program vbv; packets = packets }) → AreWithin headers packets
    → s ≡ stream → Goes table.slot (queues_of table choice) rows s packet
    → IsFreeSoon table.slot stream program vbv headers rows → IsFreeSoon table.slot stream program vbv headers (rows ++ Carries s packet ∷ [])
free-carried table choice stream s program vbv packets headers rows packet valid fits there within same goes before =
    let slot = table.slot in
    let queue : Queue = record { kind = Video program vbv; packets = packets } in
    let head : Queue = record { kind = goes.kind; packets = goes.head.0 } in
    let is : head ≡ queue = same_Some head queue (sym goes.head.1 ∙ ap (λ k. slice_get (queues_of table choice) k) same ∙ there) in
    let at : slice_get packets (count_by (is_of s) rows) ≡ Some packet = ap (λ (q : Queue). slice_get q.packets (count_by (is_of s) rows)) (sym is) ∙ goes.head.2 in
    let header : headers packet ≤ packet.payload = All-at_place (λ (p : QueuedPacket). headers p ≤ p.payload) packets within (count_by (is_of s) rows) packet at in
    let limited : IsLimited slot packet = IsHead-limited table choice rows s goes.kind packet valid fits goes.head in
    let payload_is : payload_in stream (Carries s packet) ≡ packet.payload = payload_in-carried stream s packet same in
    let header_is : header_in stream headers (Carries s packet) ≡ headers packet = cond-true (eqb s stream) (headers packet) 0 (eq-eqb s stream same) in
    free-one slot stream program vbv headers rows (Carries s packet) (packets_in-carried stream s (Video program vbv) packet same)
    (omega (arith, payload_is, limited.payload))
    (omega (arith, header, header_is, payload_is), omega (arith, payload_is, limited.payload))
    (omega (arith, tb_free-most slot stream (Video program vbv) headers rows, carried_gate slot stream s (queues_of table choice) (Video program vbv) packets rows packet there same goes))
    before

free-row : (table : Table) (choice : List ℕ) (stream program vbv : ℕ) (packets : List QueuedPacket) (headers : Headers) (rows : List Row) (row : Row) → IsValidTable table → Fits table choice
    → slice_get (queues_of table choice) stream ≡ Some (record { kind = Video program vbv; packets = packets }) → AreWithin headers packets
    → FollowRule table choice rows → IsNext table choice rows row → IsFreeSoon table.slot stream program vbv headers rows → IsFreeSoon table.slot stream program vbv headers (rows ++ row ∷ [])
free-row table choice stream program vbv packets headers rows Empty valid fits there within follows next before = free-none table.slot stream program vbv headers rows Empty refl refl before
free-row table choice stream program vbv packets headers rows
    (Reserved Null) valid fits there within follows next before = free-none table.slot stream program vbv headers rows
    (Reserved Null) refl refl before
free-row table choice stream program vbv packets headers rows
    (Reserved Pat) valid fits there within follows next before = free-none table.slot stream program vbv headers rows (Reserved Pat) refl refl before
free-row table choice stream program vbv packets headers rows
    (Reserved (Pmt p)) valid fits there within follows next before = free-none table.slot stream program vbv headers rows
    (Reserved (Pmt p)) refl refl before
free-row table choice stream program vbv packets headers rows
    (Reserved (VideoPiece a b c)) valid fits there within follows next before = free-none table.slot stream program vbv headers rows
    (Reserved (VideoPiece a b c)) refl refl before
free-row table choice stream program vbv packets headers rows
    (Reserved (AudioPiece a b)) valid fits there within follows next before = free-none table.slot stream program vbv headers rows
    (Reserved (AudioPiece a b)) refl refl before
free-row table choice stream program vbv packets headers rows (Reserved (Pcr p)) valid fits there within follows next before =
    elim (cases_Bool (eqb p program)) as (λ _. IsFreeSoon table.slot stream program vbv headers (rows ++ Reserved (Pcr p) ∷ [])) [
      | inl same ↦
          (let place : IsPcrPlace (length table.programs) program (length rows % period table.slot) =
          subst (λ q. IsPcrPlace (length table.programs) q (length rows % period table.slot)) (eqb-true p program same) (pcr_place (length table.programs) (length rows % period table.slot) p next) in
          let room = video_room_after table choice stream program vbv packets rows valid there follows in
          let little : tb_work table.slot stream (Video program vbv) rows
          ≤ video_room - 3 * slot_subticks table.slot = room.after_two (omega (arith, place.after, place.within))
          (omega (arith, place.place)) place.within in
          free-one table.slot stream program vbv headers rows (Reserved (Pcr p)) (packets_in-pcr stream program vbv p (eqb-true p program same)) (omega arith) (omega arith, omega arith)
          (omega (arith, tb_free-most table.slot stream (Video program vbv) headers rows, little, valid.slot_least)) before)
      | inr other ↦ free-none table.slot stream program vbv headers rows (Reserved (Pcr p)) (packets_in-other_pcr stream program vbv p (eqb-false p program other)) refl before
    ]
free-row table choice stream program vbv packets headers rows (Carries s packet) valid fits there within follows next before =
    elim (cases_Bool (eqb s stream)) as (λ _. IsFreeSoon table.slot stream program vbv headers (rows ++ Carries s packet ∷ [])) [
      | inl same ↦ free-carried table choice stream s program vbv packets headers rows packet valid fits there within (eqb-true s stream same) next.1 before
      | inr other ↦
          (let apart : s ≡ stream → ⊥ = eqb-false s stream other in
          free-none table.slot stream program vbv headers rows (Carries s packet) (packets_in-other stream s (Video program vbv) packet apart) (payload_in-other stream s packet apart) before)
    ]

pub free_soon : (table : Table) (choice : List ℕ) (stream program vbv : ℕ) (packets : List QueuedPacket) (headers : Headers) (rows : List Row) → IsValidTable table → Fits table choice
    → slice_get (queues_of table choice) stream ≡ Some (record { kind = Video program vbv; packets = packets }) → AreWithin headers packets
    → FollowRule table choice rows → IsFreeSoon table.slot stream program vbv headers rows
free_soon table choice stream program vbv packets headers rows valid fits there within =
    by_push (λ rows. FollowRule table choice rows → IsFreeSoon table.slot stream program vbv headers rows) (λ follows. free-nil table.slot stream program vbv headers)
    (λ rows row before follows.
    let front : FollowRule table choice rows = FollowRule-front table choice rows (row ∷ []) follows in
    free-row table choice stream program vbv packets headers rows row valid fits there within front (FollowRule-last table choice rows row follows) (before front))
    rows

pub mb_empty : (table : Table) (choice : List ℕ) (stream program vbv : ℕ) (packets : List QueuedPacket) (headers : Headers) (rows : List Row) (at : ℕ) → IsValidTable table → Fits table choice
    → FollowRule table choice rows → slice_get (queues_of table choice) stream ≡ Some (record { kind = Video program vbv; packets = packets }) → AreWithin headers packets
    → length rows * slot_subticks table.slot + mb_work table.slot stream rows + mb_delay ≤ at
    → bytes_in (free_running_mb table.slot vbv (arrivals_from 0 stream (Video program vbv) headers rows)) at ≡ 0
unfolding payload_passes leave_tb
mb_empty table choice stream program vbv packets headers rows at valid fits follows there within late =
    let pass = passes table.slot stream (Video program vbv) headers rows in
    let soon : IsFreeSoon table.slot stream program vbv headers rows = free_soon table choice stream program vbv packets headers rows valid fits there within follows in
    let all : came at (departures MB_SUBTICKS 0 pass) ≡ length (departures MB_SUBTICKS 0 pass) =
    came-all at (last_departure MB_SUBTICKS 0 pass) (departures MB_SUBTICKS 0 pass) (departures-by MB_SUBTICKS 0 pass) (omega (arith, soon.free, late)) in
    let none : came at (passes table.slot stream (Video program vbv) headers rows) - came at (departures MB_SUBTICKS 0 (passes table.slot stream (Video program vbv) headers rows)) ≡ 0 =
    omega (arith, all, length-departures MB_SUBTICKS 0 pass, came-length at pass) in
    none
