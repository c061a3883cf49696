-- A video's data is in EB before it is wanted, and EB holds no more than its size, if MB doesn't wait for EB.
use Rattle.std.proofs.Common.{
  ◌≡◌,
  ℕ,
  ◌+◌,
  ◌-◌,
  ◌*◌,
  ◌<◌,
  ◌≤◌,
  eqb,
  eq-eqb,
  List,
  [],
  ◌∷◌,
  ◌++◌,
  length,
  replicate,
  count_by,
  slice_get,
  Some,
  refl,
  sym,
  ap,
  subst₂,
  ◌∙◌,
  inl,
  inr,
  append-nil,
  length-append,
  arith,
}
use Rattle.std.specs.List.{AllZip}
use Rattle.std.proofs.lemmas.Bool.{cases_Bool, eqb-true, eqb-false, cond-true}
use Rattle.std.proofs.lemmas.List.{length-replicate}
use Rattle.std.proofs.lemmas.Option.{same_Some}
use Rattle.stream_constants.specs.declared.clock.TheConstants.{SUBTICKS_PER_TICK}
use Rattle.stream_constants.specs.declared.packets.TheConstants.{PACKET_BYTES, PAYLOAD_BYTES}
use Rattle.stream_constants.specs.declared.decoder.TheConstants.{MB_SUBTICKS}
use Rattle.version_table.specs.declared.table.Table.{Table}
use Rattle.version_table.specs.Choice.{Fits}
use Rattle.version_table.specs.Table.{IsValidTable}
use Rattle.slot_rule.specs.declared.queue_kind.QueueKind.{QueueKind}
use Rattle.slot_rule.specs.declared.queue_kind.QueueKind.TheVariants.{Video}
use Rattle.slot_rule.specs.declared.queued_packet.QueuedPacket.{QueuedPacket}
use Rattle.slot_rule.specs.declared.row.Row.{Row}
use Rattle.slot_rule.specs.declared.row.Row.TheVariants.{Reserved, Carries, Empty}
use Rattle.slot_rule.specs.declared.sent.Sent.TheVariants.{Null, Pat, Pmt, Pcr, Video as VideoPiece, Audio as AudioPiece}
use Rattle.slot_rule.specs.Queues.{Queue, queues_of}
use Rattle.slot_rule.specs.Buffers.{packets_in, payload_in, outstanding, eb_or_b_bytes, mb_work, is_of}
use Rattle.slot_rule.specs.Schedule.{Goes, FollowRule, NoMiss, end_with_margin, mb_or_tb_work}
use Rattle.slot_rule.proofs.Places.{All-at_place}
use Rattle.slot_rule.proofs.RuleFronts.{by_push}
use Rattle.slot_rule.proofs.RuleQueues.{IsLimited, IsHead-limited}
use Rattle.slot_rule.proofs.RuleRows.{IsNext, FollowRule-front, FollowRule-last}
use Rattle.slot_rule.proofs.RuleSent.{packet_of, packet_of-carried, packet_of-other}
use Rattle.slot_rule.proofs.RuleWork.{packets_in-carried, packets_in-other, packets_in-pcr, packets_in-other_pcr, payload_in-carried}
use Rattle.tstd_model.specs.Instants.{departures, came}
use Rattle.tstd_model.specs.PacketBytes.{HasHeaderWithin, byte_subticks, parts_of, parts, kept, arrives}
use Rattle.tstd_model.specs.Decoder.{eb_bytes}
use Rattle.tstd_model.specs.Private.Server.{last_departure}
use Rattle.tstd_model.proofs.Server.{length-departures}
use Rattle.tstd_bridge.specs.Arrivals.{Headers, header_in, arrivals_from}
use Rattle.tstd_bridge.specs.Removals.{AreWithin, LeaveData, wanted_of_each, gone_of_each}
use Rattle.tstd_bridge.proofs.ArrivalRows.{arrival_of, arrivals_from-none, arrivals_from-one}
use Rattle.tstd_bridge.proofs.AudioB.{HasParts}
use Rattle.tstd_bridge.proofs.AudioTimes.{NoMiss-front, sent_early}
use Rattle.tstd_bridge.proofs.Gone.{gate-step}
use Rattle.tstd_bridge.proofs.KeptBytes.{parts-push}
use Rattle.tstd_bridge.proofs.MbFree.{IsFreeSoon, free_soon}
use Rattle.tstd_bridge.proofs.MbHeaders.{HaveDataBehind, behind-append, behind-packet}
use Rattle.tstd_bridge.proofs.VideoData.{
  data_goes,
  packet_data,
  data_goes-none,
  data_goes-pcr,
  length-packet_data,
  free_moves,
  moves_free,
  packet_moves,
  moves_free-soon,
  free_moves-one,
  moves_free-one,
  packet_moves-rise,
}
use Rattle.tstd_bridge.proofs.VideoGone.{data_wanted, data_gone, data_wanted-push, data_gone-push, data_gone-late}
use Rattle.tstd_bridge.proofs.ZipLaws.{AllZip-append, zip_before, departures-by}

-- ---- one more row
pub record IsInTime (slot stream program vbv : ℕ) (headers : Headers) (rows : List Row) : Type 0 where
  pub behind : HaveDataBehind PAYLOAD_BYTES 0 (parts (arrivals_from 0 stream (Video program vbv) headers rows))
  pub early : AllZip (λ move wanted. move < wanted) (free_moves slot stream program vbv headers rows) (data_wanted stream program vbv headers rows)
  pub few : length (free_moves slot stream program vbv headers rows) ≤ length (data_gone stream program vbv headers rows)
  pub held : (x : ℕ) → came x (free_moves slot stream program vbv headers rows) ≤ eb_bytes vbv + came x (data_gone stream program vbv headers rows)

time-nil : (slot stream program vbv : ℕ) (headers : Headers) → IsInTime slot stream program vbv headers []
unfolding arrivals_from parts arrives kept departures
time-nil slot stream program vbv headers = record { behind = refl; early = tt; few = omega arith; held = λ x. omega arith }

time-same : (slot stream program vbv : ℕ) (headers : Headers) (rows : List Row) (row : Row)
    → data_goes slot stream program vbv headers (rows ++ row ∷ []) ≡ data_goes slot stream program vbv headers rows → packet_of stream row ≡ []
    → HaveDataBehind PAYLOAD_BYTES 0 (parts (arrivals_from 0 stream (Video program vbv) headers (rows ++ row ∷ [])))
    → IsInTime slot stream program vbv headers rows → IsInTime slot stream program vbv headers (rows ++ row ∷ [])
time-same slot stream program vbv headers rows row same no_packet behind before =
    let same_gone : data_gone stream program vbv headers (rows ++ row ∷ []) ≡ data_gone stream program vbv headers rows =
    data_gone-push stream program vbv headers rows row ∙ ap (λ packets. data_gone stream program vbv headers rows ++ gone_of_each (Video program vbv) headers packets) no_packet
    ∙ append-nil (data_gone stream program vbv headers rows) in
    let same_wanted : data_wanted stream program vbv headers (rows ++ row ∷ []) ≡ data_wanted stream program vbv headers rows =
    data_wanted-push stream program vbv headers rows row ∙ ap (λ packets. data_wanted stream program vbv headers rows ++ wanted_of_each (Video program vbv) headers packets) no_packet
    ∙ append-nil (data_wanted stream program vbv headers rows) in
    record {
      behind = behind;
      early = rw (same, same_wanted) before.early;
      few = rw (same, same_gone) before.few;
      held = λ x. rw (same, same_gone) (before.held x);
    }

time-none : (slot stream program vbv : ℕ) (headers : Headers) (rows : List Row) (row : Row) → packets_in stream (Video program vbv) row ≡ 0 → packet_of stream row ≡ []
    → IsInTime slot stream program vbv headers rows → IsInTime slot stream program vbv headers (rows ++ row ∷ [])
time-none slot stream program vbv headers rows row none no_packet before =
    time-same slot stream program vbv headers rows row (data_goes-none slot stream program vbv headers rows row none) no_packet
    (rw (arrivals_from-none stream (Video program vbv) headers rows row none) before.behind) before

behind-one : (slot stream program vbv : ℕ) (headers : Headers) (rows : List Row) (row : Row) → packets_in stream (Video program vbv) row ≡ 1
    → HaveDataBehind PAYLOAD_BYTES 0 (parts_of (arrival_of stream (length rows) headers row)) → IsInTime slot stream program vbv headers rows
    → HaveDataBehind PAYLOAD_BYTES 0 (parts (arrivals_from 0 stream (Video program vbv) headers (rows ++ row ∷ [])))
behind-one slot stream program vbv headers rows row one own before =
    let arrivals = arrivals_from 0 stream (Video program vbv) headers rows in
    let arrival = arrival_of stream (length rows) headers row in
    rw (arrivals_from-one stream (Video program vbv) headers rows row one, parts-push arrivals arrival)
    (behind-append PAYLOAD_BYTES 0 (parts arrivals) (parts_of arrival) before.behind own)

time-one : (slot stream program vbv : ℕ) (headers : Headers) (rows : List Row) (row : Row) (packet : QueuedPacket) → packets_in stream (Video program vbv) row ≡ 1 → packet_of stream row ≡ packet ∷ []
    → payload_in stream row ≡ packet.payload → header_in stream headers row ≡ headers packet → headers packet < packet.payload → packet.payload ≤ PAYLOAD_BYTES
    → HasParts slot stream (Video program vbv) headers rows
    → outstanding stream (length rows * slot) rows + packet.payload ≤ eb_bytes vbv
    → moves_free slot stream program vbv headers (rows ++ row ∷ []) < SUBTICKS_PER_TICK * packet.due
    → IsInTime slot stream program vbv headers rows → IsInTime slot stream program vbv headers (rows ++ row ∷ [])
time-one slot stream program vbv headers rows row packet one own_packet payload_is header_is some small has gate free_early before =
    let count = packet.payload - headers packet in
    let due = SUBTICKS_PER_TICK * packet.due in
    let gone = SUBTICKS_PER_TICK * packet.gone in
    let start = PACKET_BYTES * length rows * byte_subticks slot in
    let arrival = arrival_of stream (length rows) headers row in
    let moves = free_moves slot stream program vbv headers rows in
    let gone_before = data_gone stream program vbv headers rows in
    let wanted_before = data_wanted stream program vbv headers rows in
    let own = packet_data slot stream program vbv headers rows row in
    let free = moves_free slot stream program vbv headers rows in
    let own_moves = packet_moves slot stream program vbv headers rows row in
    let fits : HasHeaderWithin (arrival_of stream (length rows) headers row) = (omega (arith, some, header_is, payload_is), omega (arith, payload_is, small)) in
    let same_gone : data_gone stream program vbv headers (rows ++ row ∷ []) ≡ data_gone stream program vbv headers rows
    ++ replicate (packet.payload - headers packet) (SUBTICKS_PER_TICK * packet.gone) =
    data_gone-push stream program vbv headers rows row ∙ ap (λ packets. data_gone stream program vbv headers rows ++ gone_of_each (Video program vbv) headers packets) own_packet
    ∙ ap (λ more. data_gone stream program vbv headers rows ++ more) (append-nil (replicate (packet.payload - headers packet) (SUBTICKS_PER_TICK * packet.gone))) in
    let same_wanted : data_wanted stream program vbv headers (rows ++ row ∷ []) ≡ data_wanted stream program vbv headers rows
    ++ replicate (packet.payload - headers packet) (SUBTICKS_PER_TICK * packet.due) =
    data_wanted-push stream program vbv headers rows row ∙ ap (λ packets. data_wanted stream program vbv headers rows ++ wanted_of_each (Video program vbv) headers packets) own_packet
    ∙ ap (λ more. data_wanted stream program vbv headers rows ++ more) (append-nil (replicate (packet.payload - headers packet) (SUBTICKS_PER_TICK * packet.due))) in
    let more : free_moves slot stream program vbv headers (rows ++ row ∷ []) ≡ free_moves slot stream program vbv headers rows ++ packet_moves slot stream program vbv headers rows row =
    free_moves-one slot stream program vbv headers rows row one has in
    let size : length own_moves ≡ count =
    length-departures MB_SUBTICKS free own ∙ (let e : length (packet_data slot stream program vbv headers rows row) ≡ packet.payload - headers packet =
    omega (arith, length-packet_data slot stream program vbv headers rows row fits, payload_is, header_is) in e) in
    let last_early : last_departure MB_SUBTICKS free own < due = omega (arith, moves_free-one slot stream program vbv headers rows row one has, free_early) in
    let early : AllZip (λ move wanted. move < wanted) own_moves (replicate count due) =
    zip_before (last_departure MB_SUBTICKS free own) due count own_moves (departures-by MB_SUBTICKS free own) last_early size in
    record {
      behind = behind-one slot stream program vbv headers rows row one
          (behind-packet PAYLOAD_BYTES arrival (omega (arith, header_is, some, small)) (inl (omega (arith, header_is, payload_is, some)))) before;
      early = rw (more, same_wanted) (AllZip-append (λ move wanted. move < wanted) moves wanted_before own_moves (replicate count due) before.early early);
      few = rw (more, same_gone) (omega (arith, before.few, length-append moves own_moves, length-append gone_before (replicate count gone), length-replicate count gone, size));
      held = λ x. rw (more, same_gone)
          (gate-step (eb_bytes vbv) x start (outstanding stream (length rows * slot) rows) count gone moves own_moves gone_before (before.held x) before.few
          (packet_moves-rise slot stream program vbv headers rows row) (omega (arith, size))
          (λ from. data_gone-late stream (length rows * slot) x program vbv headers rows (omega (arith, from))) (omega (arith, gate)));
    }

-- ---- the rows of a schedule
time-carried : (table : Table) (choice : List ℕ) (stream s program vbv : ℕ) (packets : List QueuedPacket) (headers : Headers) (rows : List Row)
    (packet : QueuedPacket) → IsValidTable table → Fits table choice
    → slice_get (queues_of table choice) stream ≡ Some (record { kind = Video program vbv; packets = packets }) → LeaveData headers packets
    → s ≡ stream → Goes table.slot (queues_of table choice) rows s packet → NoMiss table.slot (queues_of table choice) (rows ++ Carries s packet ∷ [])
    → IsFreeSoon table.slot stream program vbv headers rows → IsFreeSoon table.slot stream program vbv headers (rows ++ Carries s packet ∷ [])
    → IsInTime table.slot stream program vbv headers rows → IsInTime table.slot stream program vbv headers (rows ++ Carries s packet ∷ [])
time-carried table choice stream s program vbv packets headers rows packet valid fits there leave same goes none free after before =
    let slot = table.slot in
    let row = Carries s packet in
    let queue : Queue = record { kind = Video program vbv; packets = packets } in
    let head : Queue = record { kind = goes.kind; packets = goes.head.0 } in
    let is : head ≡ queue = same_Some head queue (sym goes.head.1 ∙ ap (λ k. slice_get (queues_of table choice) k) same ∙ there) in
    let kind_is : goes.kind ≡ Video program vbv = ap (λ (q : Queue). q.kind) is in
    let at : slice_get packets (count_by (is_of s) rows) ≡ Some packet = ap (λ (q : Queue). slice_get q.packets (count_by (is_of s) rows)) (sym is) ∙ goes.head.2 in
    let some : headers packet < packet.payload = All-at_place (λ (p : QueuedPacket). headers p < p.payload) packets leave (count_by (is_of s) rows) packet at in
    let limited : IsLimited slot packet = IsHead-limited table choice rows s goes.kind packet valid fits goes.head in
    let payload_is : payload_in stream (Carries s packet) ≡ packet.payload = payload_in-carried stream s packet same in
    let header_is : header_in stream headers (Carries s packet) ≡ headers packet = cond-true (eqb s stream) (headers packet) 0 (eq-eqb s stream same) in
    let gate : outstanding stream (length rows * table.slot) rows + packet.payload ≤ eb_bytes vbv =
    subst₂ (λ (k : QueueKind) (st : ℕ). outstanding st (length rows * table.slot) rows + packet.payload ≤ eb_or_b_bytes k) kind_is same goes.permitted.eb_or_b in
    let early : end_with_margin slot (rows ++ Carries s packet ∷ []) + mb_work slot stream (rows ++ Carries s packet ∷ []) ≤ SUBTICKS_PER_TICK * packet.due =
    subst₂ (λ (k : QueueKind) (st : ℕ). end_with_margin slot (rows ++ Carries s packet ∷ []) + mb_or_tb_work slot st k (rows ++ Carries s packet ∷ []) ≤ SUBTICKS_PER_TICK * packet.due) kind_is same
    (sent_early slot (queues_of table choice) rows s packet goes none) in
    time-one slot stream program vbv headers rows (Carries s packet) packet (packets_in-carried stream s (Video program vbv) packet same) (packet_of-carried stream s packet same)
    payload_is header_is some limited.payload free.has gate
    (omega (arith, moves_free-soon slot stream program vbv headers (rows ++ Carries s packet ∷ []), after.free, early))
    before

time-row : (table : Table) (choice : List ℕ) (stream program vbv : ℕ) (packets : List QueuedPacket) (headers : Headers) (rows : List Row) (row : Row) → IsValidTable table → Fits table choice
    → slice_get (queues_of table choice) stream ≡ Some (record { kind = Video program vbv; packets = packets }) → LeaveData headers packets
    → IsNext table choice rows row → NoMiss table.slot (queues_of table choice) (rows ++ row ∷ [])
    → IsFreeSoon table.slot stream program vbv headers rows → IsFreeSoon table.slot stream program vbv headers (rows ++ row ∷ [])
    → IsInTime table.slot stream program vbv headers rows → IsInTime table.slot stream program vbv headers (rows ++ row ∷ [])
time-row table choice stream program vbv packets headers rows Empty valid fits there leave next none free after before = time-none table.slot stream program vbv headers rows Empty refl refl before
time-row table choice stream program vbv packets headers rows
    (Reserved Null) valid fits there leave next none free after before = time-none table.slot stream program vbv headers rows
    (Reserved Null) refl refl before
time-row table choice stream program vbv packets headers rows
    (Reserved Pat) valid fits there leave next none free after before = time-none table.slot stream program vbv headers rows
    (Reserved Pat) refl refl before
time-row table choice stream program vbv packets headers rows
    (Reserved (Pmt p)) valid fits there leave next none free after before = time-none table.slot stream program vbv headers rows
    (Reserved (Pmt p)) refl refl before
time-row table choice stream program vbv packets headers rows
    (Reserved (VideoPiece a b c)) valid fits there leave next none free after before = time-none table.slot stream program vbv headers rows
    (Reserved (VideoPiece a b c)) refl refl before
time-row table choice stream program vbv packets headers rows
    (Reserved (AudioPiece a b)) valid fits there leave next none free after before = time-none table.slot stream program vbv headers rows
    (Reserved (AudioPiece a b)) refl refl before
time-row table choice stream program vbv packets headers rows (Reserved (Pcr p)) valid fits there leave next none free after before =
    elim (cases_Bool (eqb p program)) as (λ _. IsInTime table.slot stream program vbv headers (rows ++ Reserved (Pcr p) ∷ [])) [
      | inl same ↦
          (let row = Reserved (Pcr p) in
          let one : packets_in stream (Video program vbv) (Reserved (Pcr p)) ≡ 1 = packets_in-pcr stream program vbv p (eqb-true p program same) in
          time-same table.slot stream program vbv headers rows row
          (data_goes-pcr table.slot stream program vbv headers rows row one free.has (omega arith, omega arith) refl) refl
          (behind-one table.slot stream program vbv headers rows row one (behind-packet PAYLOAD_BYTES (arrival_of stream (length rows) headers row) (omega arith) (inr refl)) before)
          before)
      | inr other ↦ time-none table.slot stream program vbv headers rows (Reserved (Pcr p)) (packets_in-other_pcr stream program vbv p (eqb-false p program other)) refl before
    ]
time-row table choice stream program vbv packets headers rows (Carries s packet) valid fits there leave next none free after before =
    elim (cases_Bool (eqb s stream)) as (λ _. IsInTime table.slot stream program vbv headers (rows ++ Carries s packet ∷ [])) [
      | inl same ↦ time-carried table choice stream s program vbv packets headers rows packet valid fits there leave (eqb-true s stream same) next.1 none free after before
      | inr other ↦
          (let apart : s ≡ stream → ⊥ = eqb-false s stream other in
          time-none table.slot stream program vbv headers rows (Carries s packet) (packets_in-other stream s (Video program vbv) packet apart) (packet_of-other stream s packet apart) before)
    ]

pub in_time : (table : Table) (choice : List ℕ) (stream program vbv : ℕ) (packets : List QueuedPacket) (headers : Headers) (rows : List Row) → IsValidTable table → Fits table choice
    → slice_get (queues_of table choice) stream ≡ Some (record { kind = Video program vbv; packets = packets }) → AreWithin headers packets → LeaveData headers packets
    → FollowRule table choice rows → NoMiss table.slot (queues_of table choice) rows → IsInTime table.slot stream program vbv headers rows
in_time table choice stream program vbv packets headers rows valid fits there within leave =
    by_push (λ rows. FollowRule table choice rows → NoMiss table.slot (queues_of table choice) rows → IsInTime table.slot stream program vbv headers rows)
    (λ follows none. time-nil table.slot stream program vbv headers)
    (λ rows row before follows none.
    let front : FollowRule table choice rows = FollowRule-front table choice rows (row ∷ []) follows in
    time-row table choice stream program vbv packets headers rows row valid fits there leave (FollowRule-last table choice rows row follows) none
    (free_soon table choice stream program vbv packets headers rows valid fits there within front)
    (free_soon table choice stream program vbv packets headers (rows ++ row ∷ []) valid fits there within follows)
    (before front (NoMiss-front table.slot (queues_of table choice) rows (row ∷ []) none)))
    rows
