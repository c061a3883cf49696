-- The rows of a schedule beside the packets of a stream in their slots.
use Rattle.std.proofs.Common.{◌≡◌, ℕ, ◌+◌, ◌-◌, ◌*◌, ◌%◌, ◌<◌, ◌≤◌, Bool, true, false, eqb, leb, nat_le, if◌then◌else◌, List, [], ◌∷◌, ◌++◌, length, map, take, Option, Some, None}
use Rattle.std.proofs.Common.{refl, sym, ap, subst, ◌∙◌, append_assoc, count_by, arith}
use Rattle.std.specs.Prelude.{slice_get}
use Rattle.std.specs.List.{AllZip, range_with_len}
use Rattle.std.proofs.lemmas.Bool.{eqb-false, leb-true, leb-false}
use Rattle.std.proofs.lemmas.List.{get_or_at, length-map, length_push, map-append}
use Rattle.std.proofs.lemmas.Option.{none-some, same_Some}
use Rattle.version_table.specs.declared.table.Table.{Table}
use Rattle.slot_rule.specs.declared.sent.Sent.{Sent}
use Rattle.slot_rule.specs.declared.sent.Sent.TheVariants.{Null, Pat, Pmt, Pcr, Video as VideoPiece, Audio as AudioPiece}
use Rattle.slot_rule.specs.declared.queue_kind.QueueKind.{QueueKind}
use Rattle.slot_rule.specs.declared.queued_packet.QueuedPacket.{QueuedPacket}
use Rattle.slot_rule.specs.declared.row.Row.{Row}
use Rattle.slot_rule.specs.declared.row.Row.TheVariants.{Reserved, Carries, Empty}
use Rattle.slot_rule.specs.Queues.{Queue, queues_of}
use Rattle.slot_rule.specs.Buffers.{is_of}
use Rattle.slot_rule.specs.Schedule.{FollowRule, IsRow}
use Rattle.slot_rule.specs.SlotList.{sent_of}
use Rattle.slot_rule.specs.Timetable.{period, reserved_at}
use Rattle.ts_packets.specs.Packet.{PacketRecord}
use Rattle.mux_writer.specs.declared.layout.Layout.{Layout}
use Rattle.mux_writer.specs.Output.{packet_in, output_packet, payload_count, pid_of, sent_in}
use Rattle.mux_writer.specs.Pieces.{Pieces}

-- ---- what rows name

-- what the timetable has in a slot names a program
abbrev pub IsReserved : (programs : ℕ) → Sent → Type 0
IsReserved programs Pat = Unit {0}
IsReserved programs (Pmt program) = program < programs
IsReserved programs (Pcr program) = program < programs
IsReserved programs Null = ⊥
IsReserved programs (VideoPiece stream item piece) = ⊥
IsReserved programs (AudioPiece stream item) = ⊥

-- a packet of the queue of this number
pub record IsQueuePacket (queues : List Queue) (stream : ℕ) (packet : QueuedPacket) : Type 0 where
  pub kind : QueueKind
  pub packets : List QueuedPacket
  pub queue : slice_get queues stream ≡ Some (record { kind = kind; packets = packets })
  pub place : ℕ
  pub there : slice_get packets place ≡ Some packet

-- the row names a program, or a packet of a queue
abbrev pub IsNamed : (programs : ℕ) → List Queue → Row → Type 0
IsNamed programs queues (Reserved sent) = IsReserved programs sent
IsNamed programs queues (Carries stream packet) = IsQueuePacket queues stream packet
IsNamed programs queues Empty = Unit {0}

if-reserved : (programs : ℕ) (b : Bool) (own : Sent) (rest : Option Sent) (sent : Sent) → (b ≡ true → IsReserved programs own) → (b ≡ false → rest ≡ Some sent → IsReserved programs sent)
    → (if b then Some own else rest) ≡ Some sent → IsReserved programs sent
if-reserved programs true own rest sent here later e = subst (IsReserved programs) (same_Some own sent e) (here refl)
if-reserved programs false own rest sent here later e = later refl e

reserved-named : (programs offset : ℕ) (sent : Sent) → reserved_at programs offset ≡ Some sent → IsReserved programs sent
reserved-named programs offset sent e =
    let pcr : Option Sent = if nat_le offset (2 * programs) then Some (Pcr (offset - programs - 1)) else None in
    let pmt : Option Sent = if nat_le offset programs then Some (Pmt (offset - 1)) else pcr in
    if-reserved programs (eqb offset 0) Pat pmt sent (λ _. tt)
    (λ some. if-reserved programs (leb offset programs) (Pmt (offset - 1)) pcr sent
    (λ low. pmt-within (eqb-false offset 0 some) (leb-true offset programs low))
    (λ high. if-reserved programs (leb offset (2 * programs)) (Pcr (offset - programs - 1)) None sent
    (λ low. pcr-within (leb-true offset (2 * programs) low) (leb-false offset programs high))
    (λ _ none. absurd (none-some sent none)))) e
  where
    pmt-within : (offset ≡ 0 → ⊥) → offset ≤ programs → offset - 1 < programs
    pmt-within some low = omega (arith, some, low)

    pcr-within : offset ≤ 2 * programs → programs < offset → offset - programs - 1 < programs
    pcr-within low high = omega (arith, low, high)

row-named : (slot programs : ℕ) (queues : List Queue) (before : List Row) (row : Row) → IsRow slot programs queues before row → IsNamed programs queues row
row-named slot programs queues before (Reserved sent) is = reserved-named programs (length before % period slot) sent is
row-named slot programs queues before (Carries stream packet) is =
    let head = is.1.head in record { kind = is.1.kind; packets = head.0; queue = head.1; place = count_by (is_of stream) before; there = head.2 }
row-named slot programs queues before Empty is = tt

-- ---- packets beside rows

-- the packet of what stands in a slot, with some counter and in some slot
pub record StandsIn (layout : Layout) (slot : ℕ) (pieces : Pieces) (sent : Sent) (packet : PacketRecord) : Type 0 where
  pub count : ℕ
  pub slot_no : ℕ
  pub packet_is : packet ≡ output_packet layout slot pieces count slot_no sent

-- the row names what it has, and the packet is that of its slot
pub record IsRowPacket (programs : ℕ) (queues : List Queue) (layout : Layout) (slot : ℕ) (pieces : Pieces) (row : Row) (packet : PacketRecord) : Type 0 where
  pub named : IsNamed programs queues row
  pub stands : StandsIn layout slot pieces (sent_of queues row) packet

-- what stands in the slot of a row
sent-there : (queues : List Queue) (all before rest : List Row) (row : Row) (n : ℕ) → all ≡ before ++ row ∷ rest → length before ≡ n → sent_in (map (sent_of queues) all) n ≡ sent_of queues row
sent-there queues all before rest row n split long =
    ap (λ (rows : List Row). sent_in (map (sent_of queues) rows) n) split
    ∙ ap (λ (sents : List Sent). sent_in sents n) (map-append (sent_of queues) before (row ∷ rest))
    ∙ get_or_at (map (sent_of queues) before) (sent_of queues row) (map (sent_of queues) rest) Null n (length-map before (sent_of queues) ∙ long)

rows-from : (table : Table) (choice : List ℕ) (layout : Layout) (slot : ℕ) (pieces : Pieces) (all before rest : List Row) (n : ℕ) → all ≡ before ++ rest → length before ≡ n
    → FollowRule table choice all
    → AllZip (IsRowPacket (length table.programs) (queues_of table choice) layout slot pieces) rest
    (map (packet_in layout slot pieces (map (sent_of (queues_of table choice)) all)) (range_with_len n (length rest)))
rows-from table choice layout slot pieces all before [] n split long follows = tt
rows-from table choice layout slot pieces all before (row ∷ rest) n split long follows =
    let queues = queues_of table choice in
    let sents : List Sent = map (sent_of queues) all in
    let count : ℕ = payload_count layout (pid_of layout (sent_in sents n)) (take n sents) in
    let here : packet_in layout slot pieces sents n ≡ output_packet layout slot pieces count n (sent_of queues row) =
    ap (output_packet layout slot pieces count n) (sent-there queues all before rest row n split long) in (
      record {
        named = row-named table.slot (length table.programs) queues before row (follows before row rest split);
        stands = record { count = count; slot_no = n; packet_is = here };
      },
      rows-from table choice layout slot pieces all (before ++ row ∷ []) rest (n + 1) (split ∙ sym (append_assoc before (row ∷ []) rest))
          (length_push before row ∙ ap (λ (k : ℕ). k + 1) long) follows,
    )

-- the packets of a stream in the slots of rows that follow the rule
pub rows-and-packets : (table : Table) (choice : List ℕ) (layout : Layout) (slot : ℕ) (pieces : Pieces) (rows : List Row) → FollowRule table choice rows
    → AllZip (IsRowPacket (length table.programs) (queues_of table choice) layout slot pieces) rows
    (map (packet_in layout slot pieces (map (sent_of (queues_of table choice)) rows)) (range_with_len 0 (length rows)))
rows-and-packets table choice layout slot pieces rows follows = rows-from table choice layout slot pieces rows [] rows 0 refl refl follows
