-- MB of video, served as if EB always had room, holds less than its size.
use Rattle.std.proofs.Common.{◌≡◌, ℕ, ◌+◌, ◌-◌, ◌*◌, ◌/◌, ◌<◌, ◌≤◌, eqb, eq-eqb, List, [], ◌∷◌, ◌++◌, length, max, count_by, slice_get, Some, refl, sym, ap, subst₂, ◌∙◌, inl, inr, append-nil, arith}
use Rattle.std.proofs.lemmas.Bool.{cases_Bool, eqb-true, eqb-false, cond-true}
use Rattle.std.proofs.lemmas.Option.{same_Some}
use Rattle.std.proofs.lemmas.List.{nil_from_length}
use Rattle.stream_constants.specs.declared.main_level.TheConstants.{VBV_MOST}
use Rattle.stream_constants.specs.declared.packets.TheConstants.{PACKET_BYTES, PAYLOAD_BYTES}
use Rattle.stream_constants.specs.declared.decoder.TheConstants.{VIDEO_TB_SUBTICKS, MB_SUBTICKS, VIDEO_BYTES}
use Rattle.version_table.specs.declared.table.Table.{Table}
use Rattle.version_table.specs.Choice.{Fits}
use Rattle.version_table.specs.Table.{IsValidTable}
use Rattle.slot_rule.specs.declared.constants.TheConstants.{MB_SPARE_BYTES}
use Rattle.slot_rule.specs.declared.queue_kind.QueueKind.{QueueKind}
use Rattle.slot_rule.specs.declared.queue_kind.QueueKind.TheVariants.{Video}
use Rattle.slot_rule.specs.declared.queued_packet.QueuedPacket.{QueuedPacket}
use Rattle.slot_rule.specs.declared.row.Row.{Row}
use Rattle.slot_rule.specs.declared.row.Row.TheVariants.{Reserved, Carries, Empty}
use Rattle.slot_rule.specs.declared.sent.Sent.TheVariants.{Null, Pat, Pmt, Pcr, Video as VideoPiece, Audio as AudioPiece}
use Rattle.slot_rule.specs.Queues.{Queue, queues_of}
use Rattle.slot_rule.specs.Buffers.{packets_in, payload_in, mb_work, mb_gate, MbPermits, is_of}
use Rattle.slot_rule.specs.Schedule.{Goes, FollowRule}
use Rattle.slot_rule.proofs.Places.{All-at_place}
use Rattle.slot_rule.proofs.RuleFronts.{by_push}
use Rattle.slot_rule.proofs.RuleQueues.{IsLimited, IsHead-limited}
use Rattle.slot_rule.proofs.RuleRows.{IsNext, FollowRule-front, FollowRule-last}
use Rattle.slot_rule.proofs.RuleWork.{packets_in-carried, packets_in-other, packets_in-pcr, packets_in-other_pcr, payload_in-carried}
use Rattle.tstd_model.specs.Instants.{spaced, departures, came}
use Rattle.tstd_model.specs.PacketBytes.{HasHeaderWithin, byte_subticks, parts_of, parts, is_payload, kept, arrives}
use Rattle.tstd_model.specs.Decoder.{IsOverfull, payload_passes, leave_tb, eb_bytes}
use Rattle.tstd_model.specs.Private.Server.{Spaced, EachWithin}
use Rattle.tstd_model.proofs.RisingLaws.{kept-rises, length-spaced}
use Rattle.tstd_model.proofs.Server.{departures-append, departures-spaced, length-departures, came-occupied}
use Rattle.tstd_bridge.specs.Arrivals.{Headers, header_in, arrivals_from}
use Rattle.tstd_bridge.specs.Mb.{mb_delay, free_running_mb}
use Rattle.tstd_bridge.specs.Removals.{AreWithin}
use Rattle.tstd_bridge.proofs.ArrivalRows.{arrival_of}
use Rattle.tstd_bridge.proofs.AudioB.{passes, packet_passes, HasParts, passes-none, passes-one}
use Rattle.tstd_bridge.proofs.KeptBytes.{departures-from, length-kept_whole}
use Rattle.tstd_bridge.proofs.Levels.{video_level}
use Rattle.tstd_bridge.proofs.MbFree.{mb_free, IsFreeSoon, free_soon}
use Rattle.tstd_bridge.proofs.TbService.{EachWithin-append}
use Rattle.tstd_bridge.proofs.TbWork.{tb_free}

-- bytes of MB that stay free: those that the gate leaves, less a payload and what MB is behind
abbrev pub mb_spare : ℕ
mb_spare = MB_SPARE_BYTES - PAYLOAD_BYTES - (mb_delay / MB_SUBTICKS + 1)

-- bytes of MB that are taken at most
abbrev pub mb_taken : (vbv : ℕ) → ℕ
mb_taken vbv = VIDEO_BYTES - eb_bytes vbv - mb_spare

pub departures-late : (s l start work delay : ℕ) (comes : List ℕ) → Spaced 0 start comes → l ≤ start + work → work + s * length comes ≤ delay → EachWithin delay (departures s l comes) comes
unfolding departures
departures-late s l start work delay [] rise busy small = tt
departures-late s l start work delay (come ∷ comes) rise busy small =
    (omega (arith, rise.0), departures-late s (max come l + s) come (work + s) delay comes rise.1 (omega (arith, rise.0)) (omega arith))

abbrev PassesSoon : (slot stream program vbv : ℕ) → Headers → List Row → Type 0
PassesSoon slot stream program vbv headers rows =
    EachWithin (mb_taken vbv * MB_SUBTICKS) (departures MB_SUBTICKS 0 (passes slot stream (Video program vbv) headers rows)) (passes slot stream (Video program vbv) headers rows)

soon-nil : (slot stream program vbv : ℕ) (headers : Headers) → PassesSoon slot stream program vbv headers []
unfolding arrivals_from parts arrives kept departures
soon-nil slot stream program vbv headers = tt

soon-none : (slot stream program vbv : ℕ) (headers : Headers) (rows : List Row) (row : Row) → packets_in stream (Video program vbv) row ≡ 0
    → PassesSoon slot stream program vbv headers rows → PassesSoon slot stream program vbv headers (rows ++ row ∷ [])
soon-none slot stream program vbv headers rows row none before = rw (passes-none slot stream (Video program vbv) headers rows row none) before

-- the payload of a packet as it comes into MB
own_size : (slot stream program vbv : ℕ) (headers : Headers) (rows : List Row) (row : Row) → HasHeaderWithin (arrival_of stream (length rows) headers row)
    → length (packet_passes slot stream (Video program vbv) headers rows row) ≡ payload_in stream row
own_size slot stream program vbv headers rows row fits =
    let start = PACKET_BYTES * length rows * byte_subticks slot in
    let come = spaced start (byte_subticks slot) PACKET_BYTES in
    let tb = tb_free slot stream (Video program vbv) headers rows in
    length-kept_whole (arrival_of stream (length rows) headers row) (departures VIDEO_TB_SUBTICKS tb come) fits
    (length-departures VIDEO_TB_SUBTICKS tb come ∙ length-spaced start (byte_subticks slot) PACKET_BYTES)

soon-pcr : (slot stream program vbv : ℕ) (headers : Headers) (rows : List Row) (row : Row) → packets_in stream (Video program vbv) row ≡ 1 → payload_in stream row ≡ 0
    → HasHeaderWithin (arrival_of stream (length rows) headers row) → HasParts slot stream (Video program vbv) headers rows
    → PassesSoon slot stream program vbv headers rows → PassesSoon slot stream program vbv headers (rows ++ row ∷ [])
soon-pcr slot stream program vbv headers rows row one none fits has before =
    let own = packet_passes slot stream (Video program vbv) headers rows row in
    let empty : own ≡ [] = nil_from_length own (own_size slot stream program vbv headers rows row fits ∙ none) in
    let same : passes slot stream (Video program vbv) headers (rows ++ row ∷ []) ≡ passes slot stream (Video program vbv) headers rows =
    passes-one slot stream (Video program vbv) headers rows row one has
    ∙ ap (λ more. passes slot stream (Video program vbv) headers rows ++ more) empty
    ∙ append-nil (passes slot stream (Video program vbv) headers rows) in
    rw same before

soon-one : (slot stream program vbv : ℕ) (headers : Headers) (rows : List Row) (row : Row) → vbv ≤ VBV_MOST → packets_in stream (Video program vbv) row ≡ 1 → payload_in stream row ≤ PAYLOAD_BYTES
    → HasHeaderWithin (arrival_of stream (length rows) headers row) → IsFreeSoon slot stream program vbv headers rows → mb_work slot stream rows ≤ mb_gate vbv
    → PassesSoon slot stream program vbv headers rows → PassesSoon slot stream program vbv headers (rows ++ row ∷ [])
soon-one slot stream program vbv headers rows row level one small fits free gate before =
    let pass = passes slot stream (Video program vbv) headers rows in
    let own = packet_passes slot stream (Video program vbv) headers rows row in
    let start = PACKET_BYTES * length rows * byte_subticks slot in
    let come = spaced start (byte_subticks slot) PACKET_BYTES in
    let tb = tb_free slot stream (Video program vbv) headers rows in
    let mb = mb_free slot stream program vbv headers rows in
    let delay = mb_taken vbv * MB_SUBTICKS in
    let work = mb_gate vbv + mb_delay in
    let size : length own ≡ payload_in stream row = own_size slot stream program vbv headers rows row fits in
    let low : Spaced 0 start own =
    kept-rises is_payload start (parts_of (arrival_of stream (length rows) headers row)) (departures VIDEO_TB_SUBTICKS tb come)
    (departures-from VIDEO_TB_SUBTICKS tb start (byte_subticks slot) PACKET_BYTES) in
    let soon : EachWithin delay (departures MB_SUBTICKS mb own) own =
    departures-late MB_SUBTICKS mb start work delay own low (omega (arith, free.free, gate)) (omega (arith, size, small, level)) in
    rw (passes-one slot stream (Video program vbv) headers rows row one free.has, departures-append MB_SUBTICKS 0 pass own)
    (EachWithin-append delay (departures MB_SUBTICKS 0 pass) pass (departures MB_SUBTICKS mb own) own before soon)

soon-carried : (table : Table) (choice : List ℕ) (stream s program vbv : ℕ) (packets : List QueuedPacket) (headers : Headers) (rows : List Row)
    (packet : QueuedPacket) → IsValidTable table → Fits table choice
    → slice_get (queues_of table choice) stream ≡ Some (record { kind = Video program vbv; packets = packets }) → AreWithin headers packets
    → s ≡ stream → Goes table.slot (queues_of table choice) rows s packet → IsFreeSoon table.slot stream program vbv headers rows
    → PassesSoon table.slot stream program vbv headers rows → PassesSoon table.slot stream program vbv headers (rows ++ Carries s packet ∷ [])
soon-carried table choice stream s program vbv packets headers rows packet valid fits there within same goes free before =
    let slot = table.slot in
    let queue : Queue = record { kind = Video program vbv; packets = packets } in
    let head : Queue = record { kind = goes.kind; packets = goes.head.0 } in
    let is : head ≡ queue = same_Some head queue (sym goes.head.1 ∙ ap (λ k. slice_get (queues_of table choice) k) same ∙ there) in
    let kind_is : goes.kind ≡ Video program vbv = ap (λ (q : Queue). q.kind) is in
    let at : slice_get packets (count_by (is_of s) rows) ≡ Some packet = ap (λ (q : Queue). slice_get q.packets (count_by (is_of s) rows)) (sym is) ∙ goes.head.2 in
    let header : headers packet ≤ packet.payload = All-at_place (λ (p : QueuedPacket). headers p ≤ p.payload) packets within (count_by (is_of s) rows) packet at in
    let limited : IsLimited slot packet = IsHead-limited table choice rows s goes.kind packet valid fits goes.head in
    let payload_is : payload_in stream (Carries s packet) ≡ packet.payload = payload_in-carried stream s packet same in
    let header_is : header_in stream headers (Carries s packet) ≡ headers packet = cond-true (eqb s stream) (headers packet) 0 (eq-eqb s stream same) in
    let gate : mb_work slot stream rows ≤ mb_gate vbv =
    subst₂ (λ (k : QueueKind) (st : ℕ). MbPermits k (mb_work slot st rows)) kind_is same goes.permitted.mb in
    soon-one slot stream program vbv headers rows (Carries s packet) (video_level table choice stream program vbv packets valid there) (packets_in-carried stream s (Video program vbv) packet same)
    (omega (arith, payload_is, limited.payload))
    (omega (arith, header, header_is, payload_is), omega (arith, payload_is, limited.payload))
    free gate before

soon-row : (table : Table) (choice : List ℕ) (stream program vbv : ℕ) (packets : List QueuedPacket) (headers : Headers) (rows : List Row) (row : Row) → IsValidTable table → Fits table choice
    → slice_get (queues_of table choice) stream ≡ Some (record { kind = Video program vbv; packets = packets }) → AreWithin headers packets
    → IsNext table choice rows row → IsFreeSoon table.slot stream program vbv headers rows
    → PassesSoon table.slot stream program vbv headers rows → PassesSoon table.slot stream program vbv headers (rows ++ row ∷ [])
soon-row table choice stream program vbv packets headers rows Empty valid fits there within next free before = soon-none table.slot stream program vbv headers rows Empty refl before
soon-row table choice stream program vbv packets headers rows
    (Reserved Null) valid fits there within next free before = soon-none table.slot stream program vbv headers rows (Reserved Null) refl before
soon-row table choice stream program vbv packets headers rows (Reserved Pat) valid fits there within next free before = soon-none table.slot stream program vbv headers rows (Reserved Pat) refl before
soon-row table choice stream program vbv packets headers rows
    (Reserved (Pmt p)) valid fits there within next free before = soon-none table.slot stream program vbv headers rows (Reserved (Pmt p)) refl before
soon-row table choice stream program vbv packets headers rows
    (Reserved (VideoPiece a b c)) valid fits there within next free before = soon-none table.slot stream program vbv headers rows
    (Reserved (VideoPiece a b c)) refl before
soon-row table choice stream program vbv packets headers rows
    (Reserved (AudioPiece a b)) valid fits there within next free before = soon-none table.slot stream program vbv headers rows
    (Reserved (AudioPiece a b)) refl before
soon-row table choice stream program vbv packets headers rows (Reserved (Pcr p)) valid fits there within next free before =
    elim (cases_Bool (eqb p program)) as (λ _. PassesSoon table.slot stream program vbv headers (rows ++ Reserved (Pcr p) ∷ [])) [
      | inl same ↦
          soon-pcr table.slot stream program vbv headers rows (Reserved (Pcr p)) (packets_in-pcr stream program vbv p (eqb-true p program same)) refl (omega arith, omega arith) free.has before
      | inr other ↦ soon-none table.slot stream program vbv headers rows (Reserved (Pcr p)) (packets_in-other_pcr stream program vbv p (eqb-false p program other)) before
    ]
soon-row table choice stream program vbv packets headers rows (Carries s packet) valid fits there within next free before =
    elim (cases_Bool (eqb s stream)) as (λ _. PassesSoon table.slot stream program vbv headers (rows ++ Carries s packet ∷ [])) [
      | inl same ↦ soon-carried table choice stream s program vbv packets headers rows packet valid fits there within (eqb-true s stream same) next.1 free before
      | inr other ↦ soon-none table.slot stream program vbv headers rows (Carries s packet) (packets_in-other stream s (Video program vbv) packet (eqb-false s stream other)) before
    ]

pub passes_soon : (table : Table) (choice : List ℕ) (stream program vbv : ℕ) (packets : List QueuedPacket) (headers : Headers) (rows : List Row) → IsValidTable table → Fits table choice
    → slice_get (queues_of table choice) stream ≡ Some (record { kind = Video program vbv; packets = packets }) → AreWithin headers packets
    → FollowRule table choice rows → PassesSoon table.slot stream program vbv headers rows
passes_soon table choice stream program vbv packets headers rows valid fits there within =
    by_push (λ rows. FollowRule table choice rows → PassesSoon table.slot stream program vbv headers rows) (λ follows. soon-nil table.slot stream program vbv headers)
    (λ rows row before follows.
    let front : FollowRule table choice rows = FollowRule-front table choice rows (row ∷ []) follows in
    soon-row table choice stream program vbv packets headers rows row valid fits there within (FollowRule-last table choice rows row follows)
    (free_soon table choice stream program vbv packets headers rows valid fits there within front) (before front))
    rows

-- at most so many bytes have come into MB that have not left it
pub mb_held : (table : Table) (choice : List ℕ) (stream program vbv : ℕ) (packets : List QueuedPacket) (headers : Headers) (rows : List Row) (at : ℕ) → IsValidTable table → Fits table choice
    → FollowRule table choice rows → slice_get (queues_of table choice) stream ≡ Some (record { kind = Video program vbv; packets = packets }) → AreWithin headers packets
    → came at (passes table.slot stream (Video program vbv) headers rows) ≤ mb_taken vbv + came at (departures MB_SUBTICKS 0 (passes table.slot stream (Video program vbv) headers rows))
mb_held table choice stream program vbv packets headers rows at valid fits follows there within =
    let pass = passes table.slot stream (Video program vbv) headers rows in
    came-occupied MB_SUBTICKS 0 (mb_taken vbv) (mb_taken vbv * MB_SUBTICKS) at pass (departures MB_SUBTICKS 0 pass) refl
    (passes_soon table choice stream program vbv packets headers rows valid fits there within follows) (departures-spaced MB_SUBTICKS 0 pass)

pub mb_not_over : (table : Table) (choice : List ℕ) (stream program vbv : ℕ) (packets : List QueuedPacket) (headers : Headers) (rows : List Row) (at : ℕ) → IsValidTable table → Fits table choice
    → FollowRule table choice rows → slice_get (queues_of table choice) stream ≡ Some (record { kind = Video program vbv; packets = packets }) → AreWithin headers packets
    → IsOverfull (free_running_mb table.slot vbv (arrivals_from 0 stream (Video program vbv) headers rows)) at → ⊥
unfolding payload_passes leave_tb
mb_not_over table choice stream program vbv packets headers rows at valid fits follows there within over =
    let over' : VIDEO_BYTES - eb_bytes vbv
    < came at (passes table.slot stream (Video program vbv) headers rows) - came at (departures MB_SUBTICKS 0 (passes table.slot stream (Video program vbv) headers rows)) = over in
    omega (arith, over', mb_held table choice stream program vbv packets headers rows at valid fits follows there within)
