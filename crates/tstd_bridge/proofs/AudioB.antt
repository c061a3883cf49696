-- The main buffer B of an audio stream holds no more than its size.
use Rattle.std.proofs.Common.{
  ◌≡◌,
  ℕ,
  ◌+◌,
  ◌-◌,
  ◌*◌,
  ◌<◌,
  ◌≤◌,
  eqb,
  eq-eqb,
  List,
  [],
  ◌∷◌,
  ◌++◌,
  length,
  replicate,
  take,
  drop,
  count_by,
  slice_get,
  Some,
  refl,
  sym,
  ap,
  subst,
  subst₂,
  ◌∙◌,
  inl,
  inr,
  append-nil,
  length-append,
  arith,
}
use Rattle.std.proofs.lemmas.List.{length-replicate}
use Rattle.std.specs.List.{AllZip}
use Rattle.std.proofs.lemmas.Bool.{cases_Bool, eqb-true, eqb-false, cond-true}
use Rattle.std.proofs.lemmas.List.{take-append-drop}
use Rattle.std.proofs.lemmas.Option.{same_Some}
use Rattle.stream_constants.specs.declared.clock.TheConstants.{SUBTICKS_PER_TICK}
use Rattle.stream_constants.specs.declared.packets.TheConstants.{PACKET_BYTES}
use Rattle.stream_constants.specs.declared.decoder.TheConstants.{AUDIO_BYTES}
use Rattle.version_table.specs.declared.table.Table.{Table}
use Rattle.version_table.specs.Choice.{Fits}
use Rattle.version_table.specs.Table.{IsValidTable}
use Rattle.slot_rule.specs.declared.queue_kind.QueueKind.{QueueKind}
use Rattle.slot_rule.specs.declared.queue_kind.QueueKind.TheVariants.{Audio}
use Rattle.slot_rule.specs.declared.queued_packet.QueuedPacket.{QueuedPacket}
use Rattle.slot_rule.specs.declared.row.Row.{Row}
use Rattle.slot_rule.specs.declared.row.Row.TheVariants.{Reserved, Carries, Empty}
use Rattle.slot_rule.specs.Queues.{Queue, queues_of}
use Rattle.slot_rule.specs.Buffers.{packets_in, payload_in, queue_tb_subticks, outstanding, eb_or_b_bytes, is_of}
use Rattle.slot_rule.specs.Schedule.{Goes, FollowRule}
use Rattle.slot_rule.proofs.Places.{All-at_place}
use Rattle.slot_rule.proofs.RuleFronts.{by_push}
use Rattle.slot_rule.proofs.RuleQueues.{IsLimited, IsHead-limited}
use Rattle.slot_rule.proofs.RuleRows.{IsNext, FollowRule-front, FollowRule-last}
use Rattle.slot_rule.proofs.RuleSent.{packet_of, packets_sent, packet_of-carried, packet_of-other, FollowRule-sent}
use Rattle.slot_rule.proofs.RuleWork.{packets_in-carried, packets_in-other, payload_in-carried}
use Rattle.tstd_model.specs.declared.decoder_input.Arrival.{Arrival}
use Rattle.tstd_model.specs.declared.decoder_input.Removal.{Removal}
use Rattle.tstd_model.specs.Instants.{spaced, departures, came}
use Rattle.tstd_model.specs.PacketBytes.{HasHeaderWithin, byte_subticks, parts_of, parts, is_payload, kept, arrives}
use Rattle.tstd_model.specs.Decoder.{IsOverfull, audio_buffer, payload_passes, leave_tb, removed}
use Rattle.tstd_model.specs.Private.Server.{Spaced, EachWithin}
use Rattle.tstd_model.proofs.Counts.{came-within}
use Rattle.tstd_model.proofs.RisingLaws.{kept-rises, length-spaced}
use Rattle.tstd_model.proofs.Server.{departures-append, length-departures}
use Rattle.tstd_bridge.specs.Arrivals.{Headers, header_in, arrivals_from}
use Rattle.tstd_bridge.specs.Removals.{AreWithin, gone_of_each, IsAllowed}
use Rattle.tstd_bridge.proofs.ArrivalRows.{arrival_of, arrivals_from-none, arrivals_from-one, arrives-push, bytes_come}
use Rattle.tstd_bridge.proofs.Gone.{gones, gones-push, gone_of_each-append, gones-late, gate-step}
use Rattle.tstd_bridge.proofs.KeptBytes.{came-append, departures-from, kept-append, length-kept_packet, length-packet_parts, parts-push}
use Rattle.tstd_bridge.proofs.TbWork.{tb_free}

-- ---- the payload that goes on from TB
-- what goes on of these packets
abbrev pub passes_of : (slot subticks : ℕ) → List Arrival → List ℕ
passes_of slot subticks arrivals = kept is_payload (parts arrivals) (departures subticks 0 (arrives slot arrivals))

-- what goes on of the packets in the rows
abbrev pub passes : (slot stream : ℕ) → QueueKind → Headers → List Row → List ℕ
passes slot stream kind headers rows = passes_of slot (queue_tb_subticks kind) (arrivals_from 0 stream kind headers rows)

-- what goes on of a packet after the rows
abbrev pub packet_passes : (slot stream : ℕ) → QueueKind → Headers → List Row → Row → List ℕ
packet_passes slot stream kind headers rows row =
    kept is_payload (parts_of (arrival_of stream (length rows) headers row))
    (departures (queue_tb_subticks kind) (tb_free slot stream kind headers rows) (spaced (PACKET_BYTES * length rows * byte_subticks slot) (byte_subticks slot) PACKET_BYTES))

-- each byte has a part
abbrev pub HasParts : (slot stream : ℕ) → QueueKind → Headers → List Row → Type 0
HasParts slot stream kind headers rows = length (parts (arrivals_from 0 stream kind headers rows)) ≡ length (bytes_come slot stream kind headers rows)

pub passes-none : (slot stream : ℕ) (kind : QueueKind) (headers : Headers) (rows : List Row) (row : Row) → packets_in stream kind row ≡ 0
    → passes slot stream kind headers (rows ++ row ∷ []) ≡ passes slot stream kind headers rows
passes-none slot stream kind headers rows row none = ap (λ arrivals. passes_of slot (queue_tb_subticks kind) arrivals) (arrivals_from-none stream kind headers rows row none)

pub passes-one : (slot stream : ℕ) (kind : QueueKind) (headers : Headers) (rows : List Row) (row : Row) → packets_in stream kind row ≡ 1 → HasParts slot stream kind headers rows
    → passes slot stream kind headers (rows ++ row ∷ []) ≡ passes slot stream kind headers rows ++ packet_passes slot stream kind headers rows row
passes-one slot stream kind headers rows row one has =
    let arrivals = arrivals_from 0 stream kind headers rows in
    let arrival = arrival_of stream (length rows) headers row in
    let come = bytes_come slot stream kind headers rows in
    let own = spaced (PACKET_BYTES * length rows * byte_subticks slot) (byte_subticks slot) PACKET_BYTES in
    let t = queue_tb_subticks kind in
    let as_many : length (parts arrivals) ≡ length (departures t 0 come) = has ∙ sym (length-departures t 0 come) in
    rw (arrivals_from-one stream kind headers rows row one, parts-push arrivals arrival, arrives-push slot arrivals arrival, departures-append t 0 come own)
    (kept-append is_payload (parts arrivals) (parts_of arrival) (departures t 0 come) (departures t (tb_free slot stream kind headers rows) own) as_many)

pub has_parts-none : (slot stream : ℕ) (kind : QueueKind) (headers : Headers) (rows : List Row) (row : Row) → packets_in stream kind row ≡ 0
    → HasParts slot stream kind headers rows → HasParts slot stream kind headers (rows ++ row ∷ [])
has_parts-none slot stream kind headers rows row none has = rw (arrivals_from-none stream kind headers rows row none) has

pub has_parts-one : (slot stream : ℕ) (kind : QueueKind) (headers : Headers) (rows : List Row) (row : Row) → packets_in stream kind row ≡ 1
    → HasHeaderWithin (arrival_of stream (length rows) headers row) → HasParts slot stream kind headers rows → HasParts slot stream kind headers (rows ++ row ∷ [])
has_parts-one slot stream kind headers rows row one fits has =
    let arrivals = arrivals_from 0 stream kind headers rows in
    let arrival = arrival_of stream (length rows) headers row in
    let come = bytes_come slot stream kind headers rows in
    let first = PACKET_BYTES * length rows * byte_subticks slot in
    let own = spaced first (byte_subticks slot) PACKET_BYTES in
    rw (arrivals_from-one stream kind headers rows row one, parts-push arrivals arrival, arrives-push slot arrivals arrival)
    (omega (
      arith,
      has,
      length-append (parts arrivals) (parts_of arrival),
      length-append come own,
      length-packet_parts arrival fits,
      length-spaced first (byte_subticks slot) PACKET_BYTES,
    ))

-- ---- B
-- what B holds after the rows
record HoldsLittle (slot stream : ℕ) (headers : Headers) (rows : List Row) : Type 0 where
  pub has : HasParts slot stream Audio headers rows
  pub few : length (passes slot stream Audio headers rows) ≤ length (gones stream headers rows)
  pub held : (x : ℕ) → came x (passes slot stream Audio headers rows) ≤ AUDIO_BYTES + came x (gones stream headers rows)

little-none : (slot stream : ℕ) (headers : Headers) (rows : List Row) (row : Row) → packets_in stream Audio row ≡ 0 → packet_of stream row ≡ []
    → HoldsLittle slot stream headers rows → HoldsLittle slot stream headers (rows ++ row ∷ [])
little-none slot stream headers rows row none no_packet little =
    let same : gones stream headers (rows ++ row ∷ []) ≡ gones stream headers rows =
    gones-push stream headers rows row ∙ ap (λ packets. gones stream headers rows ++ gone_of_each Audio headers packets) no_packet ∙ append-nil (gones stream headers rows) in
    record {
      has = has_parts-none slot stream Audio headers rows row none little.has;
      few = rw (passes-none slot stream Audio headers rows row none, same) little.few;
      held = λ x. rw (passes-none slot stream Audio headers rows row none, same) (little.held x);
    }

little-one : (slot stream : ℕ) (headers : Headers) (rows : List Row) (row : Row) (packet : QueuedPacket) → packets_in stream Audio row ≡ 1 → packet_of stream row ≡ packet ∷ []
    → payload_in stream row ≡ packet.payload → HasHeaderWithin (arrival_of stream (length rows) headers row)
    → outstanding stream (length rows * slot) rows + packet.payload ≤ AUDIO_BYTES
    → HoldsLittle slot stream headers rows → HoldsLittle slot stream headers (rows ++ row ∷ [])
little-one slot stream headers rows row packet one own_packet payload_is fits gate little =
    let before = passes slot stream Audio headers rows in
    let own = packet_passes slot stream Audio headers rows row in
    let gone_before = gones stream headers rows in
    let gone = SUBTICKS_PER_TICK * packet.gone in
    let start = PACKET_BYTES * length rows * byte_subticks slot in
    let same : gones stream headers (rows ++ row ∷ []) ≡ gone_before ++ replicate packet.payload gone =
    gones-push stream headers rows row ∙ ap (λ packets. gone_before ++ gone_of_each Audio headers packets) own_packet
    ∙ ap (λ more. gone_before ++ more) (append-nil (replicate packet.payload gone)) in
    let more : passes slot stream Audio headers (rows ++ row ∷ []) ≡ before ++ own = passes-one slot stream Audio headers rows row one little.has in
    let arrival = arrival_of stream (length rows) headers row in
    let leave = departures (queue_tb_subticks Audio) (tb_free slot stream Audio headers rows) (spaced start (byte_subticks slot) PACKET_BYTES) in
    let low : Spaced 0 start own =
    kept-rises is_payload start (parts_of arrival) leave (departures-from (queue_tb_subticks Audio) (tb_free slot stream Audio headers rows) start (byte_subticks slot) PACKET_BYTES) in
    let small : length own ≤ packet.payload = omega (arith, length-kept_packet arrival leave fits, payload_is) in
    record {
      has = has_parts-one slot stream Audio headers rows row one fits little.has;
      few = rw (more, same) (omega (arith, little.few, length-append before own, length-append gone_before (replicate packet.payload gone), length-replicate packet.payload gone, small));
      held = λ x. rw (more, same)
          (gate-step AUDIO_BYTES x start (outstanding stream (length rows * slot) rows) packet.payload gone before own gone_before (little.held x) little.few low small
          (λ from. gones-late stream (length rows * slot) x headers rows (omega (arith, from))) gate);
    }

little-nil : (slot stream : ℕ) (headers : Headers) → HoldsLittle slot stream headers []
unfolding arrivals_from parts arrives kept
little-nil slot stream headers = record { has = refl; few = omega arith; held = λ x. omega arith }

-- what the rows bring to an audio stream
little-carried : (table : Table) (choice : List ℕ) (stream s : ℕ) (packets : List QueuedPacket) (headers : Headers) (rows : List Row) (packet : QueuedPacket) → IsValidTable table → Fits table choice
    → slice_get (queues_of table choice) stream ≡ Some (record { kind = Audio; packets = packets }) → AreWithin headers packets
    → s ≡ stream → Goes table.slot (queues_of table choice) rows s packet → HoldsLittle table.slot stream headers rows → HoldsLittle table.slot stream headers (rows ++ Carries s packet ∷ [])
little-carried table choice stream s packets headers rows packet valid fits there within same goes little =
    let queue : Queue = record { kind = Audio; packets = packets } in
    let head : Queue = record { kind = goes.kind; packets = goes.head.0 } in
    let is : head ≡ queue = same_Some head queue (sym goes.head.1 ∙ ap (λ k. slice_get (queues_of table choice) k) same ∙ there) in
    let kind_is : goes.kind ≡ Audio = ap (λ (q : Queue). q.kind) is in
    let at : slice_get packets (count_by (is_of s) rows) ≡ Some packet = ap (λ (q : Queue). slice_get q.packets (count_by (is_of s) rows)) (sym is) ∙ goes.head.2 in
    let header : headers packet ≤ packet.payload = All-at_place (λ (p : QueuedPacket). headers p ≤ p.payload) packets within (count_by (is_of s) rows) packet at in
    let limited : IsLimited table.slot packet = IsHead-limited table choice rows s goes.kind packet valid fits goes.head in
    let payload_is : payload_in stream (Carries s packet) ≡ packet.payload = payload_in-carried stream s packet same in
    let header_is : header_in stream headers (Carries s packet) ≡ headers packet = cond-true (eqb s stream) (headers packet) 0 (eq-eqb s stream same) in
    let gate : outstanding stream (length rows * table.slot) rows + packet.payload ≤ AUDIO_BYTES =
    subst₂ (λ (k : QueueKind) (st : ℕ). outstanding st (length rows * table.slot) rows + packet.payload ≤ eb_or_b_bytes k) kind_is same goes.permitted.eb_or_b in
    little-one table.slot stream headers rows (Carries s packet) packet (packets_in-carried stream s Audio packet same) (packet_of-carried stream s packet same) payload_is
    (omega (arith, header, header_is, payload_is), omega (arith, payload_is, limited.payload)) gate little

little-row : (table : Table) (choice : List ℕ) (stream : ℕ) (packets : List QueuedPacket) (headers : Headers) (rows : List Row) (row : Row) → IsValidTable table → Fits table choice
    → slice_get (queues_of table choice) stream ≡ Some (record { kind = Audio; packets = packets }) → AreWithin headers packets
    → IsNext table choice rows row → HoldsLittle table.slot stream headers rows → HoldsLittle table.slot stream headers (rows ++ row ∷ [])
little-row table choice stream packets headers rows (Reserved sent) valid fits there within next little = little-none table.slot stream headers rows (Reserved sent) refl refl little
little-row table choice stream packets headers rows Empty valid fits there within next little = little-none table.slot stream headers rows Empty refl refl little
little-row table choice stream packets headers rows (Carries s packet) valid fits there within next little =
    elim (cases_Bool (eqb s stream)) as (λ _. HoldsLittle table.slot stream headers (rows ++ Carries s packet ∷ [])) [
      | inl same ↦ little-carried table choice stream s packets headers rows packet valid fits there within (eqb-true s stream same) next.1 little
      | inr other ↦
          (let apart : s ≡ stream → ⊥ = eqb-false s stream other in
          little-none table.slot stream headers rows (Carries s packet) (packets_in-other stream s Audio packet apart) (packet_of-other stream s packet apart) little)
    ]

holds_little : (table : Table) (choice : List ℕ) (stream : ℕ) (packets : List QueuedPacket) (headers : Headers) (rows : List Row) → IsValidTable table → Fits table choice
    → slice_get (queues_of table choice) stream ≡ Some (record { kind = Audio; packets = packets }) → AreWithin headers packets
    → FollowRule table choice rows → HoldsLittle table.slot stream headers rows
holds_little table choice stream packets headers rows valid fits there within =
    by_push (λ rows. FollowRule table choice rows → HoldsLittle table.slot stream headers rows) (λ follows. little-nil table.slot stream headers)
    (λ rows row before follows.
    little-row table choice stream packets headers rows row valid fits there within (FollowRule-last table choice rows row follows) (before (FollowRule-front table choice rows (row ∷ []) follows)))
    rows

pub EachWithin-from_all : (xs ys : List ℕ) → AllZip (λ x y. x ≤ y) xs ys → EachWithin 0 xs ys
EachWithin-from_all [] [] each = tt
EachWithin-from_all [] (y ∷ ys) each = each
EachWithin-from_all (x ∷ xs) [] each = each
EachWithin-from_all (x ∷ xs) (y ∷ ys) each = (omega (arith, each.0), EachWithin-from_all xs ys each.1)

-- what was sent and is gone was removed
gone_removed : (x count : ℕ) (headers : Headers) (packets sent : List QueuedPacket) (removals : List Removal) → sent ≡ take count packets
    → IsAllowed Audio headers packets removals → came x (gone_of_each Audio headers sent) ≤ came x (removed removals)
gone_removed x count headers packets sent removals sent_is allowed =
    let front = gone_of_each Audio headers (take count packets) in
    let rest = gone_of_each Audio headers (drop count packets) in
    let split : gone_of_each Audio headers packets ≡ front ++ rest =
    ap (λ all. gone_of_each Audio headers all) (sym (take-append-drop count packets)) ∙ gone_of_each-append headers (take count packets) (drop count packets) in
    let all : came x (gone_of_each Audio headers packets) ≡ came x front + came x rest = ap (λ instants. came x instants) split ∙ came-append x front rest in
    let zeroth : x + 0 ≡ x = omega arith in
    let within : came x (gone_of_each Audio headers packets) ≤ came x (removed removals) =
    subst (λ y. came x (gone_of_each Audio headers packets) ≤ came y (removed removals)) zeroth
    (came-within 0 x (gone_of_each Audio headers packets) (removed removals) (EachWithin-from_all (removed removals) (gone_of_each Audio headers packets) allowed.gone)) in
    rw sent_is (omega (arith, all, within))

pub audio_holds : (table : Table) (choice : List ℕ) (stream : ℕ) (packets : List QueuedPacket) (headers : Headers) (rows : List Row) (removals : List Removal) (at : ℕ)
    → IsValidTable table → Fits table choice → FollowRule table choice rows
    → slice_get (queues_of table choice) stream ≡ Some (record { kind = Audio; packets = packets }) → AreWithin headers packets → IsAllowed Audio headers packets removals
    → IsOverfull (audio_buffer table.slot (arrivals_from 0 stream Audio headers rows) removals) at → ⊥
unfolding payload_passes leave_tb
audio_holds table choice stream packets headers rows removals at valid fits follows there within allowed over =
    let little : HoldsLittle table.slot stream headers rows = holds_little table choice stream packets headers rows valid fits there within follows in
    let sent = FollowRule-sent table choice stream Audio packets there rows follows in
    let over' : AUDIO_BYTES < came at (passes table.slot stream Audio headers rows) - came at (removed removals) = over in
    omega (arith, over', little.held at, gone_removed at (count_by (is_of stream) rows) headers packets (packets_sent stream rows) removals sent.1 allowed)
