-- An audio stream's bytes are in B before they are removed, and none is held too long.
use Rattle.std.proofs.Common.{
  ◌≡◌,
  ℕ,
  suc,
  ◌+◌,
  ◌*◌,
  ◌<◌,
  ◌≤◌,
  eqb,
  eq-eqb,
  List,
  [],
  ◌∷◌,
  ◌++◌,
  length,
  replicate,
  take,
  count_by,
  sum_by,
  map,
  slice_get,
  Some,
  refl,
  sym,
  ap,
  subst,
  subst₂,
  ◌∙◌,
  inl,
  inr,
  append-nil,
  append_assoc,
  take_all,
  arith,
}
use Rattle.std.specs.List.{AllZip}
use Rattle.std.proofs.lemmas.Bool.{cases_Bool, cases_lt, eqb-true, eqb-false, cond-true}
use Rattle.std.proofs.lemmas.Grind.{flat_map-append}
use Rattle.std.proofs.lemmas.Option.{same_Some, slice_get-get_or}
use Rattle.stream_constants.specs.declared.clock.TheConstants.{SUBTICKS_PER_TICK}
use Rattle.stream_constants.specs.declared.packets.TheConstants.{PACKET_BYTES}
use Rattle.version_table.specs.declared.table.Table.{Table}
use Rattle.version_table.specs.Choice.{Fits}
use Rattle.version_table.specs.Table.{IsValidTable}
use Rattle.slot_rule.specs.declared.queue_kind.QueueKind.{QueueKind}
use Rattle.slot_rule.specs.declared.queue_kind.QueueKind.TheVariants.{Audio}
use Rattle.slot_rule.specs.declared.queued_packet.QueuedPacket.{QueuedPacket}
use Rattle.slot_rule.specs.declared.row.Row.{Row}
use Rattle.slot_rule.specs.declared.row.Row.TheVariants.{Reserved, Carries, Empty}
use Rattle.slot_rule.specs.Queues.{Queue, queues_of}
use Rattle.slot_rule.specs.Buffers.{packets_in, payload_in, queue_tb_subticks, tb_work, is_of}
use Rattle.slot_rule.specs.Schedule.{Goes, FollowRule, NoMiss, AllSent, IsSchedule, SentLate, end_with_margin, mb_or_tb_work}
use Rattle.slot_rule.proofs.Places.{All-at_place}
use Rattle.slot_rule.proofs.RuleFronts.{by_push}
use Rattle.slot_rule.proofs.RuleQueues.{IsLimited, IsHead-limited}
use Rattle.slot_rule.proofs.RuleRows.{IsNext, FollowRule-front, FollowRule-last, NoMiss-last}
use Rattle.slot_rule.proofs.RuleSent.{packet_of, packets_sent, packets_sent-push, packet_of-carried, packet_of-other, FollowRule-sent}
use Rattle.slot_rule.proofs.RuleWork.{packets_in-carried, packets_in-other, payload_in-carried}
use Rattle.tstd_model.specs.declared.decoder_input.Arrival.{Arrival}
use Rattle.tstd_model.specs.declared.decoder_input.BufferKind.TheVariants.{Audio as AudioBuffers}
use Rattle.tstd_model.specs.declared.decoder_input.Removal.{Removal}
use Rattle.tstd_model.specs.Instants.{spaced, departures, came, came_before}
use Rattle.tstd_model.specs.PacketBytes.{HasHeaderWithin, byte_subticks, parts_of, parts, is_payload, kept, arrives}
use Rattle.tstd_model.specs.Decoder.{payload_passes, leave_tb, removed}
use Rattle.tstd_model.specs.Faults.{FindsLess, HeldPastLimit, hold_subticks}
use Rattle.tstd_model.specs.Private.Server.{last_departure}
use Rattle.tstd_model.proofs.Bounds.{kept-most}
use Rattle.tstd_model.proofs.RisingLaws.{kept-rises, length-spaced, Spaced-from_order}
use Rattle.tstd_model.proofs.Server.{last_departure-append, length-departures}
use Rattle.tstd_bridge.specs.Arrivals.{Headers, header_in, arrivals_from}
use Rattle.tstd_bridge.specs.Removals.{AreWithin, wanted_of_each, gone_of_each, IsAllowed}
use Rattle.tstd_bridge.proofs.ArrivalRows.{arrival_of, arrivals_from-none, arrivals_from-one, arrives-push, bytes_come, bytes_come-one}
use Rattle.tstd_bridge.proofs.AudioB.{passes, packet_passes, HasParts, passes-none, passes-one, has_parts-none, has_parts-one}
use Rattle.tstd_bridge.proofs.Gone.{gones, gones-push}
use Rattle.tstd_bridge.proofs.KeptBytes.{kept-append, length-kept_whole, parts-push, spaced-from}
use Rattle.tstd_bridge.proofs.TbWork.{tb_free, tb_free-most}
use Rattle.tstd_bridge.proofs.ZipLaws.{AllZip-append, zip_before, zip_within, zip_before-then, zip_within-then, came-before, zip-get, departures-by, taken-by}

-- ---- when the payload of the rows comes
abbrev payload_comes_of : (slot : ℕ) → List Arrival → List ℕ
payload_comes_of slot arrivals = kept is_payload (parts arrivals) (arrives slot arrivals)

abbrev payload_comes : (slot stream : ℕ) → Headers → List Row → List ℕ
payload_comes slot stream headers rows = payload_comes_of slot (arrivals_from 0 stream Audio headers rows)

abbrev packet_comes : (slot stream : ℕ) → Headers → List Row → Row → List ℕ
packet_comes slot stream headers rows row =
    kept is_payload (parts_of (arrival_of stream (length rows) headers row)) (spaced (PACKET_BYTES * length rows * byte_subticks slot) (byte_subticks slot) PACKET_BYTES)

payload_comes-none : (slot stream : ℕ) (headers : Headers) (rows : List Row) (row : Row) → packets_in stream Audio row ≡ 0
    → payload_comes slot stream headers (rows ++ row ∷ []) ≡ payload_comes slot stream headers rows
payload_comes-none slot stream headers rows row none = ap (λ arrivals. payload_comes_of slot arrivals) (arrivals_from-none stream Audio headers rows row none)

payload_comes-one : (slot stream : ℕ) (headers : Headers) (rows : List Row) (row : Row) → packets_in stream Audio row ≡ 1 → HasParts slot stream Audio headers rows
    → payload_comes slot stream headers (rows ++ row ∷ []) ≡ payload_comes slot stream headers rows ++ packet_comes slot stream headers rows row
payload_comes-one slot stream headers rows row one has =
    let arrivals = arrivals_from 0 stream Audio headers rows in
    let arrival = arrival_of stream (length rows) headers row in
    let own = spaced (PACKET_BYTES * length rows * byte_subticks slot) (byte_subticks slot) PACKET_BYTES in
    rw (arrivals_from-one stream Audio headers rows row one, parts-push arrivals arrival, arrives-push slot arrivals arrival)
    (kept-append is_payload (parts arrivals) (parts_of arrival) (arrives slot arrivals) own has)

-- when each payload byte that was sent in the rows is wanted
abbrev wanteds : (stream : ℕ) → Headers → List Row → List ℕ
wanteds stream headers rows = wanted_of_each Audio headers (packets_sent stream rows)

wanteds-push : (stream : ℕ) (headers : Headers) (rows : List Row) (row : Row)
    → wanteds stream headers (rows ++ row ∷ []) ≡ wanteds stream headers rows ++ wanted_of_each Audio headers (packet_of stream row)
wanteds-push stream headers rows row =
    ap (λ packets. wanted_of_each Audio headers packets) (packets_sent-push stream rows row)
    ∙ flat_map-append (λ (packet : QueuedPacket). replicate packet.payload (SUBTICKS_PER_TICK * packet.due)) (packets_sent stream rows) (packet_of stream row)

-- ---- in time
-- each byte is in B before it is wanted, and is gone before it was held too long
record IsTimely (slot stream : ℕ) (headers : Headers) (rows : List Row) : Type 0 where
  pub has : HasParts slot stream Audio headers rows
  pub early : AllZip (λ pass wanted. pass < wanted) (passes slot stream Audio headers rows) (wanteds stream headers rows)
  pub short : AllZip (λ come gone. gone ≤ come + hold_subticks) (payload_comes slot stream headers rows) (gones stream headers rows)

timely-nil : (slot stream : ℕ) (headers : Headers) → IsTimely slot stream headers []
unfolding arrivals_from parts arrives kept
timely-nil slot stream headers = record { has = refl; early = tt; short = tt }

timely-none : (slot stream : ℕ) (headers : Headers) (rows : List Row) (row : Row) → packets_in stream Audio row ≡ 0 → packet_of stream row ≡ []
    → IsTimely slot stream headers rows → IsTimely slot stream headers (rows ++ row ∷ [])
timely-none slot stream headers rows row none no_packet timely =
    let same_gone : gones stream headers (rows ++ row ∷ []) ≡ gones stream headers rows =
    gones-push stream headers rows row ∙ ap (λ packets. gones stream headers rows ++ gone_of_each Audio headers packets) no_packet ∙ append-nil (gones stream headers rows) in
    let same_wanted : wanteds stream headers (rows ++ row ∷ []) ≡ wanteds stream headers rows =
    wanteds-push stream headers rows row ∙ ap (λ packets. wanteds stream headers rows ++ wanted_of_each Audio headers packets) no_packet ∙ append-nil (wanteds stream headers rows) in
    record {
      has = has_parts-none slot stream Audio headers rows row none timely.has;
      early = rw (passes-none slot stream Audio headers rows row none, same_wanted) timely.early;
      short = rw (payload_comes-none slot stream headers rows row none, same_gone) timely.short;
    }

timely-one : (slot stream : ℕ) (headers : Headers) (rows : List Row) (row : Row) (packet : QueuedPacket) → packets_in stream Audio row ≡ 1 → packet_of stream row ≡ packet ∷ []
    → payload_in stream row ≡ packet.payload → HasHeaderWithin (arrival_of stream (length rows) headers row)
    → tb_free slot stream Audio headers (rows ++ row ∷ []) < SUBTICKS_PER_TICK * packet.due
    → SUBTICKS_PER_TICK * packet.gone ≤ PACKET_BYTES * length rows * byte_subticks slot + hold_subticks
    → IsTimely slot stream headers rows → IsTimely slot stream headers (rows ++ row ∷ [])
timely-one slot stream headers rows row packet one own_packet payload_is fits free_early gone_soon timely =
    let due = SUBTICKS_PER_TICK * packet.due in
    let gone = SUBTICKS_PER_TICK * packet.gone in
    let start = PACKET_BYTES * length rows * byte_subticks slot in
    let arrival = arrival_of stream (length rows) headers row in
    let come = spaced start (byte_subticks slot) PACKET_BYTES in
    let t = queue_tb_subticks Audio in
    let free = tb_free slot stream Audio headers rows in
    let leave = departures t free come in
    let same_gone : gones stream headers (rows ++ row ∷ []) ≡ gones stream headers rows ++ replicate packet.payload gone =
    gones-push stream headers rows row ∙ ap (λ packets. gones stream headers rows ++ gone_of_each Audio headers packets) own_packet
    ∙ ap (λ more. gones stream headers rows ++ more) (append-nil (replicate packet.payload gone)) in
    let same_wanted : wanteds stream headers (rows ++ row ∷ []) ≡ wanteds stream headers rows ++ replicate packet.payload due =
    wanteds-push stream headers rows row ∙ ap (λ packets. wanteds stream headers rows ++ wanted_of_each Audio headers packets) own_packet
    ∙ ap (λ more. wanteds stream headers rows ++ more) (append-nil (replicate packet.payload due)) in
    let end : tb_free slot stream Audio headers (rows ++ row ∷ []) ≡ last_departure t free come =
    ap (λ bytes. last_departure t 0 bytes) (bytes_come-one slot stream Audio headers rows row one) ∙ last_departure-append t 0 (bytes_come slot stream Audio headers rows) come in
    let end_early : last_departure t free come < due = omega (arith, end, free_early) in
    let come_all : length come ≡ PACKET_BYTES = length-spaced start (byte_subticks slot) PACKET_BYTES in
    let leave_all : length leave ≡ PACKET_BYTES = length-departures t free come ∙ come_all in
    let own_passes = packet_passes slot stream Audio headers rows row in
    let own_comes = packet_comes slot stream headers rows row in
    let early : AllZip (λ pass wanted. pass < wanted) own_passes (replicate packet.payload due) =
    zip_before (last_departure t free come) due packet.payload own_passes (kept-most (last_departure t free come) is_payload (parts_of arrival) leave (departures-by t free come)) end_early
    (length-kept_whole arrival leave fits leave_all ∙ payload_is) in
    let short : AllZip (λ come gone. gone ≤ come + hold_subticks) own_comes (replicate packet.payload gone) =
    zip_within start hold_subticks gone packet.payload own_comes
    (kept-rises is_payload start (parts_of arrival) come (spaced-from start start (byte_subticks slot) PACKET_BYTES (omega arith))) gone_soon
    (length-kept_whole arrival come fits come_all ∙ payload_is) in
    record {
      has = has_parts-one slot stream Audio headers rows row one fits timely.has;
      early = rw (passes-one slot stream Audio headers rows row one timely.has, same_wanted)
          (AllZip-append (λ pass wanted. pass < wanted) (passes slot stream Audio headers rows) (wanteds stream headers rows) own_passes (replicate packet.payload due) timely.early early);
      short = rw (payload_comes-one slot stream headers rows row one timely.has, same_gone)
          (AllZip-append (λ come gone. gone ≤ come + hold_subticks) (payload_comes slot stream headers rows) (gones stream headers rows) own_comes (replicate packet.payload gone) timely.short short);
    }

pub NoMiss-front : (slot : ℕ) (queues : List Queue) (rows more : List Row) → NoMiss slot queues (rows ++ more) → NoMiss slot queues rows
NoMiss-front slot queues rows more none before row after stream packet e =
    none before row (after ++ more) stream packet (ap (λ all. all ++ more) e ∙ append_assoc before (row ∷ after) more)

-- a packet that doesn't miss has come, with what waits before it, some time before it is wanted
pub sent_early : (slot : ℕ) (queues : List Queue) (rows : List Row) (s : ℕ) (packet : QueuedPacket) (goes : Goes slot queues rows s packet) → NoMiss slot queues (rows ++ Carries s packet ∷ [])
    → end_with_margin slot (rows ++ Carries s packet ∷ []) + mb_or_tb_work slot s goes.kind (rows ++ Carries s packet ∷ []) ≤ SUBTICKS_PER_TICK * packet.due
sent_early slot queues rows s packet goes none =
    let end = end_with_margin slot (rows ++ Carries s packet ∷ []) + mb_or_tb_work slot s goes.kind (rows ++ Carries s packet ∷ []) in
    elim (cases_lt (SUBTICKS_PER_TICK * packet.due) end) as (λ _. end ≤ SUBTICKS_PER_TICK * packet.due) [
      | inl late ↦
          (let sent : SentLate slot queues (rows ++ Carries s packet ∷ []) s packet = record { before = rows; went = refl; kind = goes.kind; head = goes.head; late = late } in
          absurd (NoMiss-last slot queues rows (Carries s packet) none s packet (inl sent)))
      | inr early ↦ early
    ]

timely-carried : (table : Table) (choice : List ℕ) (stream s : ℕ) (packets : List QueuedPacket) (headers : Headers) (rows : List Row) (packet : QueuedPacket) → IsValidTable table → Fits table choice
    → slice_get (queues_of table choice) stream ≡ Some (record { kind = Audio; packets = packets }) → AreWithin headers packets
    → s ≡ stream → Goes table.slot (queues_of table choice) rows s packet → NoMiss table.slot (queues_of table choice) (rows ++ Carries s packet ∷ [])
    → IsTimely table.slot stream headers rows → IsTimely table.slot stream headers (rows ++ Carries s packet ∷ [])
timely-carried table choice stream s packets headers rows packet valid fits there within same goes none timely =
    let slot = table.slot in
    let row = Carries s packet in
    let queue : Queue = record { kind = Audio; packets = packets } in
    let head : Queue = record { kind = goes.kind; packets = goes.head.0 } in
    let is : head ≡ queue = same_Some head queue (sym goes.head.1 ∙ ap (λ k. slice_get (queues_of table choice) k) same ∙ there) in
    let kind_is : goes.kind ≡ Audio = ap (λ (q : Queue). q.kind) is in
    let at : slice_get packets (count_by (is_of s) rows) ≡ Some packet = ap (λ (q : Queue). slice_get q.packets (count_by (is_of s) rows)) (sym is) ∙ goes.head.2 in
    let header : headers packet ≤ packet.payload = All-at_place (λ (p : QueuedPacket). headers p ≤ p.payload) packets within (count_by (is_of s) rows) packet at in
    let limited : IsLimited slot packet = IsHead-limited table choice rows s goes.kind packet valid fits goes.head in
    let payload_is : payload_in stream (Carries s packet) ≡ packet.payload = payload_in-carried stream s packet same in
    let header_is : header_in stream headers (Carries s packet) ≡ headers packet = cond-true (eqb s stream) (headers packet) 0 (eq-eqb s stream same) in
    let early : end_with_margin slot (rows ++ Carries s packet ∷ []) + tb_work slot stream Audio (rows ++ Carries s packet ∷ []) ≤ SUBTICKS_PER_TICK * packet.due =
    subst₂ (λ (k : QueueKind) (st : ℕ). end_with_margin slot (rows ++ Carries s packet ∷ []) + mb_or_tb_work slot st k (rows ++ Carries s packet ∷ []) ≤ SUBTICKS_PER_TICK * packet.due) kind_is same
    (sent_early slot (queues_of table choice) rows s packet goes none) in
    let hold = goes.permitted.hold in
    timely-one slot stream headers rows (Carries s packet) packet (packets_in-carried stream s Audio packet same) (packet_of-carried stream s packet same) payload_is
    (omega (arith, header, header_is, payload_is), omega (arith, payload_is, limited.payload))
    (omega (arith, early, tb_free-most slot stream Audio headers (rows ++ Carries s packet ∷ [])))
    (omega (arith, hold)) timely

timely-row : (table : Table) (choice : List ℕ) (stream : ℕ) (packets : List QueuedPacket) (headers : Headers) (rows : List Row) (row : Row) → IsValidTable table → Fits table choice
    → slice_get (queues_of table choice) stream ≡ Some (record { kind = Audio; packets = packets }) → AreWithin headers packets
    → IsNext table choice rows row → NoMiss table.slot (queues_of table choice) (rows ++ row ∷ []) → IsTimely table.slot stream headers rows → IsTimely table.slot stream headers (rows ++ row ∷ [])
timely-row table choice stream packets headers rows (Reserved sent) valid fits there within next none timely = timely-none table.slot stream headers rows (Reserved sent) refl refl timely
timely-row table choice stream packets headers rows Empty valid fits there within next none timely = timely-none table.slot stream headers rows Empty refl refl timely
timely-row table choice stream packets headers rows (Carries s packet) valid fits there within next none timely =
    elim (cases_Bool (eqb s stream)) as (λ _. IsTimely table.slot stream headers (rows ++ Carries s packet ∷ [])) [
      | inl same ↦ timely-carried table choice stream s packets headers rows packet valid fits there within (eqb-true s stream same) next.1 none timely
      | inr other ↦
          (let apart : s ≡ stream → ⊥ = eqb-false s stream other in
          timely-none table.slot stream headers rows (Carries s packet) (packets_in-other stream s Audio packet apart) (packet_of-other stream s packet apart) timely)
    ]

timely : (table : Table) (choice : List ℕ) (stream : ℕ) (packets : List QueuedPacket) (headers : Headers) (rows : List Row) → IsValidTable table → Fits table choice
    → slice_get (queues_of table choice) stream ≡ Some (record { kind = Audio; packets = packets }) → AreWithin headers packets
    → FollowRule table choice rows → NoMiss table.slot (queues_of table choice) rows → IsTimely table.slot stream headers rows
timely table choice stream packets headers rows valid fits there within =
    by_push (λ rows. FollowRule table choice rows → NoMiss table.slot (queues_of table choice) rows → IsTimely table.slot stream headers rows) (λ follows none. timely-nil table.slot stream headers)
    (λ rows row before follows none.
    timely-row table choice stream packets headers rows row valid fits there within (FollowRule-last table choice rows row follows) none
    (before (FollowRule-front table choice rows (row ∷ []) follows) (NoMiss-front table.slot (queues_of table choice) rows (row ∷ []) none)))
    rows

-- ---- all packets
pub all_sent : (table : Table) (choice : List ℕ) (stream : ℕ) (kind : QueueKind) (packets : List QueuedPacket) (rows : List Row)
    → slice_get (queues_of table choice) stream ≡ Some (record { kind = kind; packets = packets })
    → FollowRule table choice rows → AllSent (queues_of table choice) rows → packets_sent stream rows ≡ packets
all_sent table choice stream kind packets rows there follows sent =
    let count = count_by (is_of stream) rows in
    let first = FollowRule-sent table choice stream kind packets there rows follows in
    let none : QueuedPacket = record { item = 0; piece = 0; payload = 0; due = 0; gone = 0 } in
    elim (cases_lt (count_by (is_of stream) rows) (length packets)) as (λ _. packets_sent stream rows ≡ packets) [
      | inl less ↦ absurd (sent stream kind _ (packets, there, slice_get-get_or packets (count_by (is_of stream) rows) none less))
      | inr all ↦ first.1 ∙ take_all (count_by (is_of stream) rows) packets all
    ]

pub audio_in_time : (table : Table) (choice : List ℕ) (stream : ℕ) (packets : List QueuedPacket) (headers : Headers) (rows : List Row) (removals : List Removal) (number : ℕ)
    → IsValidTable table → Fits table choice → IsSchedule table choice rows
    → slice_get (queues_of table choice) stream ≡ Some (record { kind = Audio; packets = packets }) → AreWithin headers packets → IsAllowed Audio headers packets removals
    → FindsLess table.slot AudioBuffers (arrivals_from 0 stream Audio headers rows) removals number → ⊥
unfolding payload_passes leave_tb
audio_in_time table choice stream packets headers rows removals number valid fits schedule there within allowed less =
    let times : IsTimely table.slot stream headers rows = timely table choice stream packets headers rows valid fits there within schedule.follows schedule.in_time in
    let sent : packets_sent stream rows ≡ packets = all_sent table choice stream Audio packets rows there schedule.follows schedule.sent in
    let pass = passes table.slot stream Audio headers rows in
    let early : AllZip (λ pass wanted. pass < wanted) pass (wanted_of_each Audio headers packets) =
    subst (λ ps. AllZip (λ pass wanted. pass < wanted) (passes table.slot stream Audio headers rows) (wanted_of_each Audio headers ps)) sent times.early in
    let x = SUBTICKS_PER_TICK * less.removal.due in
    let before : came x (removed removals) ≤ came_before x pass = came-before x pass (removed removals)
    (zip_before-then pass (wanted_of_each Audio headers packets) (removed removals) early allowed.wanted) in
    let fewer : came_before x pass < sum_by (λ r. r.bytes) (take (number + 1) removals) = less.fewer in
    let taken : sum_by (λ r. r.bytes) (take (suc number) removals) ≤ came x (removed removals) =
    taken-by 0 number removals less.removal (Spaced-from_order (map (λ r. r.due) removals) allowed.in_order) less.one_of in
    let next : number + 1 ≡ suc number = omega arith in
    let fewer' : came_before x pass < sum_by (λ r. r.bytes) (take (suc number) removals) = subst (λ n. came_before x pass < sum_by (λ (r : Removal). r.bytes) (take n removals)) next fewer in
    omega (arith, fewer', taken, before)

pub audio_not_old : (table : Table) (choice : List ℕ) (stream : ℕ) (packets : List QueuedPacket) (headers : Headers) (rows : List Row) (removals : List Removal) (at : ℕ)
    → IsValidTable table → Fits table choice → IsSchedule table choice rows
    → slice_get (queues_of table choice) stream ≡ Some (record { kind = Audio; packets = packets }) → AreWithin headers packets → IsAllowed Audio headers packets removals
    → HeldPastLimit table.slot AudioBuffers (arrivals_from 0 stream Audio headers rows) removals at → ⊥
audio_not_old table choice stream packets headers rows removals at valid fits schedule there within allowed held =
    let times : IsTimely table.slot stream headers rows = timely table choice stream packets headers rows valid fits there within schedule.follows schedule.in_time in
    let sent : packets_sent stream rows ≡ packets = all_sent table choice stream Audio packets rows there schedule.follows schedule.sent in
    let come = payload_comes table.slot stream headers rows in
    let short : AllZip (λ come gone. gone ≤ come + hold_subticks) come (gone_of_each Audio headers packets) =
    subst (λ ps. AllZip (λ come gone. gone ≤ come + hold_subticks) (payload_comes table.slot stream headers rows) (gone_of_each Audio headers ps)) sent times.short in
    let each : AllZip (λ come at. at ≤ come + hold_subticks) come (removed removals) = zip_within-then hold_subticks come (gone_of_each Audio headers packets) (removed removals) short allowed.gone in
    let found = zip-get (λ come at. at ≤ come + hold_subticks) come (removed removals) held.byte held.arrival each held.arrives in
    let past : held.arrival + hold_subticks < found.0 = held.stays found.0 found.1 in
    omega (arith, past, found.2)
