-- No byte of a video stream is held too long: its packet goes not long before it is gone.
use Rattle.std.proofs.Common.{◌≡◌, ℕ, ◌+◌, ◌-◌, ◌*◌, ◌<◌, ◌≤◌, eqb, eq-eqb, List, [], ◌∷◌, ◌++◌, length, replicate, count_by, slice_get, Some, refl, sym, ap, subst, ◌∙◌, inl, inr, append-nil, arith}
use Rattle.std.specs.List.{AllZip}
use Rattle.std.proofs.lemmas.Bool.{cases_Bool, eqb-true, eqb-false, cond-true}
use Rattle.std.proofs.lemmas.Grind.{flat_map-append}
use Rattle.std.proofs.lemmas.Option.{same_Some}
use Rattle.stream_constants.specs.declared.clock.TheConstants.{SUBTICKS_PER_TICK}
use Rattle.stream_constants.specs.declared.packets.TheConstants.{PACKET_BYTES}
use Rattle.version_table.specs.declared.table.Table.{Table}
use Rattle.version_table.specs.Choice.{Fits}
use Rattle.version_table.specs.Table.{IsValidTable}
use Rattle.slot_rule.specs.declared.queue_kind.QueueKind.{QueueKind}
use Rattle.slot_rule.specs.declared.queue_kind.QueueKind.TheVariants.{Video}
use Rattle.slot_rule.specs.declared.queued_packet.QueuedPacket.{QueuedPacket}
use Rattle.slot_rule.specs.declared.row.Row.{Row}
use Rattle.slot_rule.specs.declared.row.Row.TheVariants.{Reserved, Carries, Empty}
use Rattle.slot_rule.specs.declared.sent.Sent.TheVariants.{Null, Pat, Pmt, Pcr, Video as VideoPiece, Audio as AudioPiece}
use Rattle.slot_rule.specs.Queues.{Queue, queues_of}
use Rattle.slot_rule.specs.Buffers.{packets_in, payload_in, is_of}
use Rattle.slot_rule.specs.Schedule.{Goes, FollowRule, IsSchedule}
use Rattle.slot_rule.proofs.Places.{All-at_place}
use Rattle.slot_rule.proofs.RuleFronts.{by_push}
use Rattle.slot_rule.proofs.RuleQueues.{IsLimited, IsHead-limited}
use Rattle.slot_rule.proofs.RuleRows.{IsNext, FollowRule-front, FollowRule-last}
use Rattle.slot_rule.proofs.RuleSent.{packet_of, packets_sent, packets_sent-push, packet_of-carried, packet_of-other}
use Rattle.slot_rule.proofs.RuleWork.{packets_in-carried, packets_in-other, packets_in-pcr, packets_in-other_pcr, payload_in-carried}
use Rattle.tstd_model.specs.declared.decoder_input.Arrival.{Arrival}
use Rattle.tstd_model.specs.declared.decoder_input.BufferKind.TheVariants.{Video as VideoBuffers}
use Rattle.tstd_model.specs.declared.decoder_input.Removal.{Removal}
use Rattle.tstd_model.specs.Instants.{spaced}
use Rattle.tstd_model.specs.PacketBytes.{HasHeaderWithin, byte_subticks, parts_of, parts, is_data, kept, arrives}
use Rattle.tstd_model.specs.Decoder.{removed}
use Rattle.tstd_model.specs.Faults.{HeldPastLimit, hold_subticks}
use Rattle.tstd_model.proofs.RisingLaws.{kept-rises, length-spaced}
use Rattle.tstd_bridge.specs.Arrivals.{Headers, header_in, arrivals_from}
use Rattle.tstd_bridge.specs.Removals.{AreWithin, gone_of_each, IsAllowed}
use Rattle.tstd_bridge.proofs.ArrivalRows.{arrival_of, arrivals_from-none, arrivals_from-one, arrives-push}
use Rattle.tstd_bridge.proofs.AudioB.{HasParts, has_parts-none, has_parts-one}
use Rattle.tstd_bridge.proofs.AudioTimes.{all_sent}
use Rattle.tstd_bridge.proofs.KeptBytes.{kept-append, length-kept_data, parts-push, spaced-from}
use Rattle.tstd_bridge.proofs.ZipLaws.{AllZip-append, zip_within, zip_within-then, zip-get}
use Rattle.tstd_bridge.proofs.VideoGone.{data_gone}

-- when the data of the packets comes
abbrev data_comes_of : (slot : ℕ) → List Arrival → List ℕ
data_comes_of slot arrivals = kept is_data (parts arrivals) (arrives slot arrivals)

abbrev data_comes : (slot stream program vbv : ℕ) → Headers → List Row → List ℕ
data_comes slot stream program vbv headers rows = data_comes_of slot (arrivals_from 0 stream (Video program vbv) headers rows)

data_gone-push : (stream program vbv : ℕ) (headers : Headers) (rows : List Row) (row : Row)
    → data_gone stream program vbv headers (rows ++ row ∷ []) ≡ data_gone stream program vbv headers rows ++ gone_of_each (Video program vbv) headers (packet_of stream row)
data_gone-push stream program vbv headers rows row =
    ap (λ packets. gone_of_each (Video program vbv) headers packets) (packets_sent-push stream rows row)
    ∙ flat_map-append (λ (packet : QueuedPacket). replicate (packet.payload - headers packet) (SUBTICKS_PER_TICK * packet.gone)) (packets_sent stream rows) (packet_of stream row)

-- each byte of data is gone before it was held too long
record IsShort (slot stream program vbv : ℕ) (headers : Headers) (rows : List Row) : Type 0 where
  pub has : HasParts slot stream (Video program vbv) headers rows
  pub short : AllZip (λ come gone. gone ≤ come + hold_subticks) (data_comes slot stream program vbv headers rows) (data_gone stream program vbv headers rows)

short-nil : (slot stream program vbv : ℕ) (headers : Headers) → IsShort slot stream program vbv headers []
unfolding arrivals_from parts arrives kept
short-nil slot stream program vbv headers = record { has = refl; short = tt }

short-none : (slot stream program vbv : ℕ) (headers : Headers) (rows : List Row) (row : Row) → packets_in stream (Video program vbv) row ≡ 0 → packet_of stream row ≡ []
    → IsShort slot stream program vbv headers rows → IsShort slot stream program vbv headers (rows ++ row ∷ [])
short-none slot stream program vbv headers rows row none no_packet before =
    let kind : QueueKind = Video program vbv in
    let same_gone : data_gone stream program vbv headers (rows ++ row ∷ []) ≡ data_gone stream program vbv headers rows =
    data_gone-push stream program vbv headers rows row ∙ ap (λ packets. data_gone stream program vbv headers rows ++ gone_of_each (Video program vbv) headers packets) no_packet
    ∙ append-nil (data_gone stream program vbv headers rows) in
    let same : data_comes slot stream program vbv headers (rows ++ row ∷ []) ≡ data_comes slot stream program vbv headers rows =
    ap (λ arrivals. data_comes_of slot arrivals) (arrivals_from-none stream (Video program vbv) headers rows row none) in
    record {
      has = has_parts-none slot stream (Video program vbv) headers rows row none before.has;
      short = rw (same, same_gone) before.short;
    }

short-one : (slot stream program vbv : ℕ) (headers : Headers) (rows : List Row) (row : Row) (count gone : ℕ) → packets_in stream (Video program vbv) row ≡ 1
    → gone_of_each (Video program vbv) headers (packet_of stream row) ≡ replicate count gone → payload_in stream row - header_in stream headers row ≡ count
    → HasHeaderWithin (arrival_of stream (length rows) headers row)
    → gone ≤ PACKET_BYTES * length rows * byte_subticks slot + hold_subticks
    → IsShort slot stream program vbv headers rows → IsShort slot stream program vbv headers (rows ++ row ∷ [])
short-one slot stream program vbv headers rows row count gone one own_gone count_is fits gone_soon before =
    let start = PACKET_BYTES * length rows * byte_subticks slot in
    let arrivals = arrivals_from 0 stream (Video program vbv) headers rows in
    let arrival = arrival_of stream (length rows) headers row in
    let come = spaced start (byte_subticks slot) PACKET_BYTES in
    let own = kept is_data (parts_of arrival) come in
    let same_gone : data_gone stream program vbv headers (rows ++ row ∷ []) ≡ data_gone stream program vbv headers rows ++ replicate count gone =
    data_gone-push stream program vbv headers rows row ∙ ap (λ more. data_gone stream program vbv headers rows ++ more) own_gone in
    let same : data_comes slot stream program vbv headers (rows ++ row ∷ []) ≡ data_comes slot stream program vbv headers rows ++ own =
    rw (arrivals_from-one stream (Video program vbv) headers rows row one, parts-push arrivals arrival, arrives-push slot arrivals arrival)
    (kept-append is_data (parts arrivals) (parts_of arrival) (arrives slot arrivals) come before.has) in
    let short : AllZip (λ come gone. gone ≤ come + hold_subticks) own (replicate count gone) =
    zip_within start hold_subticks gone count own (kept-rises is_data start (parts_of arrival) come (spaced-from start start (byte_subticks slot) PACKET_BYTES (omega arith))) gone_soon
    (length-kept_data arrival come fits (length-spaced start (byte_subticks slot) PACKET_BYTES) ∙ count_is) in
    record {
      has = has_parts-one slot stream (Video program vbv) headers rows row one fits before.has;
      short = rw (same, same_gone)
          (AllZip-append (λ come gone. gone ≤ come + hold_subticks) (data_comes slot stream program vbv headers rows)
          (data_gone stream program vbv headers rows) own (replicate count gone) before.short short);
    }

short-carried : (table : Table) (choice : List ℕ) (stream s program vbv : ℕ) (packets : List QueuedPacket) (headers : Headers) (rows : List Row)
    (packet : QueuedPacket) → IsValidTable table → Fits table choice
    → slice_get (queues_of table choice) stream ≡ Some (record { kind = Video program vbv; packets = packets }) → AreWithin headers packets
    → s ≡ stream → Goes table.slot (queues_of table choice) rows s packet
    → IsShort table.slot stream program vbv headers rows → IsShort table.slot stream program vbv headers (rows ++ Carries s packet ∷ [])
short-carried table choice stream s program vbv packets headers rows packet valid fits there within same goes before =
    let slot = table.slot in
    let count = packet.payload - headers packet in
    let gone = SUBTICKS_PER_TICK * packet.gone in
    let queue : Queue = record { kind = Video program vbv; packets = packets } in
    let head : Queue = record { kind = goes.kind; packets = goes.head.0 } in
    let is : head ≡ queue = same_Some head queue (sym goes.head.1 ∙ ap (λ k. slice_get (queues_of table choice) k) same ∙ there) in
    let at : slice_get packets (count_by (is_of s) rows) ≡ Some packet = ap (λ (q : Queue). slice_get q.packets (count_by (is_of s) rows)) (sym is) ∙ goes.head.2 in
    let header : headers packet ≤ packet.payload = All-at_place (λ (p : QueuedPacket). headers p ≤ p.payload) packets within (count_by (is_of s) rows) packet at in
    let limited : IsLimited slot packet = IsHead-limited table choice rows s goes.kind packet valid fits goes.head in
    let payload_is : payload_in stream (Carries s packet) ≡ packet.payload = payload_in-carried stream s packet same in
    let header_is : header_in stream headers (Carries s packet) ≡ headers packet = cond-true (eqb s stream) (headers packet) 0 (eq-eqb s stream same) in
    let hold = goes.permitted.hold in
    let own_gone : gone_of_each (Video program vbv) headers (packet_of stream (Carries s packet)) ≡ replicate (packet.payload - headers packet) (SUBTICKS_PER_TICK * packet.gone) =
    ap (λ ps. gone_of_each (Video program vbv) headers ps) (packet_of-carried stream s packet same) ∙ append-nil (replicate (packet.payload - headers packet) (SUBTICKS_PER_TICK * packet.gone)) in
    short-one slot stream program vbv headers rows (Carries s packet) count gone (packets_in-carried stream s (Video program vbv) packet same) own_gone
    (omega (arith, payload_is, header_is))
    (omega (arith, header, header_is, payload_is), omega (arith, payload_is, limited.payload))
    (omega (arith, hold)) before

short-row : (table : Table) (choice : List ℕ) (stream program vbv : ℕ) (packets : List QueuedPacket) (headers : Headers) (rows : List Row) (row : Row) → IsValidTable table → Fits table choice
    → slice_get (queues_of table choice) stream ≡ Some (record { kind = Video program vbv; packets = packets }) → AreWithin headers packets
    → IsNext table choice rows row → IsShort table.slot stream program vbv headers rows → IsShort table.slot stream program vbv headers (rows ++ row ∷ [])
short-row table choice stream program vbv packets headers rows Empty valid fits there within next before = short-none table.slot stream program vbv headers rows Empty refl refl before
short-row table choice stream program vbv packets headers rows
    (Reserved Null) valid fits there within next before = short-none table.slot stream program vbv headers rows (Reserved Null) refl refl before
short-row table choice stream program vbv packets headers rows
    (Reserved Pat) valid fits there within next before = short-none table.slot stream program vbv headers rows (Reserved Pat) refl refl before
short-row table choice stream program vbv packets headers rows
    (Reserved (Pmt p)) valid fits there within next before = short-none table.slot stream program vbv headers rows (Reserved (Pmt p)) refl refl before
short-row table choice stream program vbv packets headers rows
    (Reserved (VideoPiece a b c)) valid fits there within next before = short-none table.slot stream program vbv headers rows
    (Reserved (VideoPiece a b c)) refl refl before
short-row table choice stream program vbv packets headers rows
    (Reserved (AudioPiece a b)) valid fits there within next before = short-none table.slot stream program vbv headers rows
    (Reserved (AudioPiece a b)) refl refl before
short-row table choice stream program vbv packets headers rows (Reserved (Pcr p)) valid fits there within next before =
    elim (cases_Bool (eqb p program)) as (λ _. IsShort table.slot stream program vbv headers (rows ++ Reserved (Pcr p) ∷ [])) [
      | inl same ↦
          short-one table.slot stream program vbv headers rows (Reserved (Pcr p)) 0 0 (packets_in-pcr stream program vbv p (eqb-true p program same)) refl refl
          (omega arith, omega arith) (omega arith) before
      | inr other ↦ short-none table.slot stream program vbv headers rows (Reserved (Pcr p)) (packets_in-other_pcr stream program vbv p (eqb-false p program other)) refl before
    ]
short-row table choice stream program vbv packets headers rows (Carries s packet) valid fits there within next before =
    elim (cases_Bool (eqb s stream)) as (λ _. IsShort table.slot stream program vbv headers (rows ++ Carries s packet ∷ [])) [
      | inl same ↦ short-carried table choice stream s program vbv packets headers rows packet valid fits there within (eqb-true s stream same) next.1 before
      | inr other ↦
          (let apart : s ≡ stream → ⊥ = eqb-false s stream other in
          short-none table.slot stream program vbv headers rows (Carries s packet) (packets_in-other stream s (Video program vbv) packet apart) (packet_of-other stream s packet apart) before)
    ]

pub video_not_old : (table : Table) (choice : List ℕ) (stream program vbv : ℕ) (packets : List QueuedPacket) (headers : Headers) (rows : List Row) (removals : List Removal) (at : ℕ)
    → IsValidTable table → Fits table choice → IsSchedule table choice rows
    → slice_get (queues_of table choice) stream ≡ Some (record { kind = Video program vbv; packets = packets }) → AreWithin headers packets → IsAllowed (Video program vbv) headers packets removals
    → HeldPastLimit table.slot (VideoBuffers vbv) (arrivals_from 0 stream (Video program vbv) headers rows) removals at → ⊥
video_not_old table choice stream program vbv packets headers rows removals at valid fits schedule there within allowed held =
    let all : IsShort table.slot stream program vbv headers rows =
    by_push (λ rows. FollowRule table choice rows → IsShort table.slot stream program vbv headers rows) (λ follows. short-nil table.slot stream program vbv headers)
    (λ rows row before follows.
    short-row table choice stream program vbv packets headers rows row valid fits there within (FollowRule-last table choice rows row follows)
    (before (FollowRule-front table choice rows (row ∷ []) follows)))
    rows schedule.follows in
    let sent : packets_sent stream rows ≡ packets = all_sent table choice stream (Video program vbv) packets rows there schedule.follows schedule.sent in
    let come = data_comes table.slot stream program vbv headers rows in
    let short : AllZip (λ come gone. gone ≤ come + hold_subticks) come (gone_of_each (Video program vbv) headers packets) =
    subst (λ ps. AllZip (λ come gone. gone ≤ come + hold_subticks) (data_comes table.slot stream program vbv headers rows) (gone_of_each (Video program vbv) headers ps)) sent all.short in
    let each : AllZip (λ come at. at ≤ come + hold_subticks) come (removed removals) =
    zip_within-then hold_subticks come (gone_of_each (Video program vbv) headers packets) (removed removals) short allowed.gone in
    let found = zip-get (λ come at. at ≤ come + hold_subticks) come (removed removals) held.byte held.arrival each held.arrives in
    let past : held.arrival + hold_subticks < found.0 = held.stays found.0 found.1 in
    omega (arith, past, found.2)
