-- What the packets of a stream bring to a decoder is what the rows of its slots bring.
use Rattle.std.proofs.Common.{◌≡◌, ℕ, ◌+◌, ◌<◌, Bool, true, false, eqb, eq-eqb, ne_eqb, if◌then◌else◌, List, [], ◌∷◌, ◌++◌, length, replicate, Some, refl, sym, ap, ap₂, subst, ◌∙◌, inl, inr}
use Rattle.std.specs.Prelude.{slice_get}
use Rattle.std.specs.List.{AllZip}
use Rattle.std.proofs.lemmas.Bool.{cases_eq}
use Rattle.std.proofs.lemmas.Option.{get_or_from_slice_get, same_Some, slice_get_within}
use Rattle.bit_lists.specs.Payload.{Payload}
use Rattle.ts_packets.specs.Packet.{PacketRecord}
use Rattle.ts_packets.specs.Carried.{payload_of}
use Rattle.tstd_model.specs.declared.decoder_input.Arrival.{Arrival}
use Rattle.slot_rule.specs.declared.sent.Sent.{Sent}
use Rattle.slot_rule.specs.declared.sent.Sent.TheVariants.{Null, Pat, Pmt, Pcr, Video as VideoPiece, Audio as AudioPiece}
use Rattle.slot_rule.specs.declared.queue_kind.QueueKind.{QueueKind}
use Rattle.slot_rule.specs.declared.queue_kind.QueueKind.TheVariants.{Video, Audio}
use Rattle.slot_rule.specs.declared.queued_packet.QueuedPacket.{QueuedPacket}
use Rattle.slot_rule.specs.declared.row.Row.{Row}
use Rattle.slot_rule.specs.declared.row.Row.TheVariants.{Reserved, Carries, Empty}
use Rattle.slot_rule.specs.Queues.{Queue}
use Rattle.slot_rule.specs.SlotList.{kind_at, piece_sent}
use Rattle.tstd_bridge.specs.Arrivals.{Headers, arrival_in, arrivals_from}
use Rattle.mux_writer.specs.declared.layout.Layout.{Layout}
use Rattle.mux_writer.specs.declared.packets.TheConstants.{NULL_PID, PAT_PID}
use Rattle.mux_writer.specs.Layout.{map_pid, stream_pid, video_pid}
use Rattle.mux_writer.specs.Output.{output_packet}
use Rattle.mux_writer.specs.Pieces.{Pieces}
use Rattle.clean_laws.specs.Arrivals.{arrival_of, arrivals_of, header_bytes}
use Rattle.clean_laws.proofs.Slots.{IsQueuePacket, IsReserved, IsRowPacket}

-- ---- packets beside rows, one after another

-- where each packet brings what its row brings, all packets bring what all rows bring
pub by-rows : (R : Row → PacketRecord → Type 0) (test : PacketRecord → Bool) (header : PacketRecord → ℕ) (own : ℕ → Row → List Arrival) (all : ℕ → List Row → List Arrival)
    → ((n : ℕ) (row : Row) (packet : PacketRecord) → R row packet → arrival_of (test packet) n (header packet) packet ≡ own n row)
    → ((n : ℕ) → all n [] ≡ []) → ((n : ℕ) (row : Row) (rows : List Row) → all n (row ∷ rows) ≡ own n row ++ all (n + 1) rows)
    → (n : ℕ) (rows : List Row) (packets : List PacketRecord) → AllZip R rows packets → arrivals_of test header n packets ≡ all n rows
by-rows R test header own all each none more n [] [] zip = sym (none n)
by-rows R test header own all each none more n [] (p ∷ ps) zip = absurd zip
by-rows R test header own all each none more n (r ∷ rs) [] zip = absurd zip
by-rows R test header own all each none more n (row ∷ rows) (packet ∷ packets) zip =
    ap₂ (λ (xs ys : List Arrival). xs ++ ys) (each n row packet zip.0) (by-rows R test header own all each none more (n + 1) rows packets zip.1) ∙ sym (more n row rows)

-- ---- a stream among the others

-- the packets with a PCR on a PID are those of its own program
abbrev pub IsPcrPid : (programs : ℕ) → QueueKind → (pid : ℕ) → Type 0
IsPcrPid programs (Video program vbv) pid = (video_pid program ≡ pid) × ((other : ℕ) → other < programs → video_pid other ≡ pid → other ≡ program)
IsPcrPid programs Audio pid = (other : ℕ) → other < programs → video_pid other ≡ pid → ⊥

-- an audio packet is a piece of its own
abbrev pub IsFirstPiece : QueueKind → QueuedPacket → Type 0
IsFirstPiece (Video program vbv) packet = Unit {0}
IsFirstPiece Audio packet = packet.piece ≡ 0

-- the packet of a queue has a piece as long as it, with as much of a PES header
pub record HasItsPiece (pieces : Pieces) (headers : Headers) (stream : ℕ) (kind : QueueKind) (packet : QueuedPacket) : Type 0 where
  pub first : IsFirstPiece kind packet
  pub size : length (pieces stream packet.item packet.piece).bytes ≡ packet.payload
  pub header : header_bytes (pieces stream packet.item packet.piece) ≡ headers packet

-- the PID is that of the stream and of nothing else but its program's packets with a PCR
pub record IsPidOf (queues : List Queue) (layout : Layout) (programs stream pid : ℕ) (kind : QueueKind) : Type 0 where
  pub own : stream_pid layout stream ≡ pid
  pub apart : (other : ℕ) → other < length queues → stream_pid layout other ≡ pid → other ≡ stream
  pub no_null : NULL_PID ≡ pid → ⊥
  pub no_pat : PAT_PID ≡ pid → ⊥
  pub no_map : (program : ℕ) → program < programs → map_pid program ≡ pid → ⊥
  pub pcr : IsPcrPid programs kind pid

-- ---- tests

-- two pairs of numbers that are equal together
pub same-test : (a b c d : ℕ) → (a ≡ b → c ≡ d) → (c ≡ d → a ≡ b) → eqb a b ≡ eqb c d
same-test a b c d there back =
    elim (cases_eq c d) as (λ _. eqb a b ≡ eqb c d) [
      | inl same ↦ eq-eqb a b (back same) ∙ sym (eq-eqb c d same)
      | inr apart ↦ ne_eqb a b (λ e. apart (there e)) ∙ sym (ne_eqb c d apart)
    ]

-- an arrival where a test says so
abbrev pub if_there : Bool → (slot_no header payload : ℕ) → List Arrival
if_there b slot_no header payload = if b then record { slot_no = slot_no; header = header; payload = payload } ∷ [] else []

same-there : (a b : Bool) (n h p h' p' : ℕ) → a ≡ b → (b ≡ true → h ≡ h') → (b ≡ true → p ≡ p') → if_there a n h p ≡ if_there b n h' p'
same-there a true n h p h' p' same header payload =
    ap (λ (c : Bool). if_there c n h p) same ∙ ap₂ (λ (x y : ℕ). if_there true n x y) (header refl) (payload refl)
same-there a false n h p h' p' same header payload = ap (λ (c : Bool). if_there c n h p) same

none-there : (a : Bool) (n h p : ℕ) → a ≡ false → if_there a n h p ≡ []
none-there a n h p none = ap (λ (c : Bool). if_there c n h p) none

-- ---- what a row brings

carried-video : (b : Bool) (n h p : ℕ) → replicate {A = Arrival} ((if b then 1 else 0) + 0) (record { slot_no = n; header = if b then h else 0; payload = if b then p else 0 }) ≡ if_there b n h p
carried-video true n h p = refl
carried-video false n h p = refl

carried-audio : (b : Bool) (n h p : ℕ) → replicate {A = Arrival} (if b then 1 else 0) (record { slot_no = n; header = if b then h else 0; payload = if b then p else 0 }) ≡ if_there b n h p
carried-audio true n h p = refl
carried-audio false n h p = refl

carried : (kind : QueueKind) (stream other n : ℕ) (headers : Headers) (packet : QueuedPacket)
    → arrival_in stream kind headers n (Carries other packet) ≡ if_there (eqb other stream) n (headers packet) packet.payload
unfolding arrival_in
carried (Video program vbv) stream other n headers packet = carried-video (eqb other stream) n (headers packet) packet.payload
carried Audio stream other n headers packet = carried-audio (eqb other stream) n (headers packet) packet.payload

with-pcr : (b : Bool) (n : ℕ) → replicate {A = Arrival} (0 + (if b then 1 else 0)) (record { slot_no = n; header = 0; payload = 0 }) ≡ if_there b n 0 0
with-pcr true n = refl
with-pcr false n = refl

-- ---- a packet of a queue

-- a packet on the PID of a stream with a piece of it
pub record CarriesPiece (layout : Layout) (other : ℕ) (payload : Payload) (packet : PacketRecord) : Type 0 where
  pub pid : packet.pid ≡ stream_pid layout other
  pub payload_is : payload_of packet ≡ payload

pub carries : (layout : Layout) (slot : ℕ) (pieces : Pieces) (count n other : ℕ) (kind : QueueKind) (queued : QueuedPacket) → IsFirstPiece kind queued
    → CarriesPiece layout other (pieces other queued.item queued.piece) (output_packet layout slot pieces count n (piece_sent kind other queued))
carries layout slot pieces count n other (Video program vbv) queued first = record { pid = refl; payload_is = refl }
carries layout slot pieces count n other Audio queued first = record { pid = refl; payload_is = ap (λ (k : ℕ). pieces other queued.item k) (sym first) }

pub pid-of : (layout : Layout) (slot : ℕ) (pieces : Pieces) (count n other : ℕ) (kind : QueueKind) (queued : QueuedPacket)
    → (output_packet layout slot pieces count n (piece_sent kind other queued)).pid ≡ stream_pid layout other
pid-of layout slot pieces count n other (Video program vbv) queued = refl
pid-of layout slot pieces count n other Audio queued = refl

-- the kind of the queue of a number
pub kind-there : (queues : List Queue) (k : ℕ) (kind : QueueKind) (packets : List QueuedPacket) → slice_get queues k ≡ Some (record { kind = kind; packets = packets }) → kind_at queues k ≡ kind
kind-there queues k kind packets there =
    ap (λ (q : Queue). q.kind) (get_or_from_slice_get queues k (record { kind = kind; packets = packets }) (record { kind = Audio; packets = [] }) there)

-- ---- a packet on the PID of a stream brings what its row brings to the stream

module _ (queues : List Queue) (layout : Layout) (slot programs : ℕ) (pieces : Pieces) (headers : Headers) (stream pid : ℕ) (packets : List QueuedPacket) where
  -- what a packet brings to the PID
  abbrev on_pid : (n : ℕ) → PacketRecord → List Arrival
  on_pid n packet = arrival_of (eqb packet.pid pid) n (header_bytes (payload_of packet)) packet

  abbrev IsThis : QueueKind → Type 0
  IsThis kind = slice_get queues stream ≡ Some (record { kind = kind; packets = packets })

  abbrev HaveTheirPieces : QueueKind → Type 0
  HaveTheirPieces kind = (place : ℕ) (packet : QueuedPacket) → slice_get packets place ≡ Some packet → HasItsPiece pieces headers stream kind packet

  reserved-brings : (kind : QueueKind) (sent : Sent) (n count at : ℕ) → IsPidOf queues layout programs stream pid kind → IsReserved programs sent
      → on_pid n (output_packet layout slot pieces count at sent) ≡ arrival_in stream kind headers n (Reserved sent)
  unfolding arrival_in
  reserved-brings (Video program vbv) Pat n count at is named = none-there (eqb PAT_PID pid) n _ _ (ne_eqb PAT_PID pid is.no_pat)
  reserved-brings Audio Pat n count at is named = none-there (eqb PAT_PID pid) n _ _ (ne_eqb PAT_PID pid is.no_pat)
  reserved-brings (Video program vbv) (Pmt p) n count at is named = none-there (eqb (map_pid p) pid) n _ _ (ne_eqb (map_pid p) pid (is.no_map p named))
  reserved-brings Audio (Pmt p) n count at is named = none-there (eqb (map_pid p) pid) n _ _ (ne_eqb (map_pid p) pid (is.no_map p named))
  reserved-brings (Video program vbv) (Pcr p) n count at is named =
      ap (λ (b : Bool). if_there b n 0 0) (same-test (video_pid p) pid p program (is.pcr.1 p named) (λ e. ap video_pid e ∙ is.pcr.0)) ∙ sym (with-pcr (eqb p program) n)
  reserved-brings Audio (Pcr p) n count at is named = none-there (eqb (video_pid p) pid) n _ _ (ne_eqb (video_pid p) pid (is.pcr p named))
  reserved-brings kind Null n count at is named = absurd named
  reserved-brings kind (VideoPiece s item piece) n count at is named = absurd named
  reserved-brings kind (AudioPiece s item) n count at is named = absurd named

  empty-brings : (kind : QueueKind) (n count at : ℕ) → IsPidOf queues layout programs stream pid kind → on_pid n (output_packet layout slot pieces count at Null) ≡ arrival_in stream kind headers n Empty
  unfolding arrival_in
  empty-brings (Video program vbv) n count at is = none-there (eqb NULL_PID pid) n _ _ (ne_eqb NULL_PID pid is.no_null)
  empty-brings Audio n count at is = none-there (eqb NULL_PID pid) n _ _ (ne_eqb NULL_PID pid is.no_null)

  -- the packet is as long as the queue's, with as much of a PES header
  abbrev Facts : (own : QueueKind) → (other : ℕ) → (queued : QueuedPacket) → (count at : ℕ) → Type 0
  Facts own other queued count at =
      (length (output_packet layout slot pieces count at (piece_sent own other queued)).payload ≡ queued.payload)
      × (header_bytes (payload_of (output_packet layout slot pieces count at (piece_sent own other queued))) ≡ headers queued)

  -- a packet of a queue of any kind
  queued-brings : (kind own : QueueKind) (other : ℕ) (queued : QueuedPacket) (n count at : ℕ) → IsPidOf queues layout programs stream pid kind → IsThis kind → HaveTheirPieces kind
      → (named : IsQueuePacket queues other queued) → own ≡ named.kind
      → on_pid n (output_packet layout slot pieces count at (piece_sent own other queued)) ≡ arrival_in stream kind headers n (Carries other queued)
  queued-brings kind own other queued n count at is this have named own-is =
      let packet : PacketRecord = output_packet layout slot pieces count at (piece_sent own other queued) in
      let within : other < length queues = slice_get_within queues other _ named.queue in
      let pid-is : packet.pid ≡ stream_pid layout other = pid-of layout slot pieces count at other own queued in
      let test : eqb packet.pid pid ≡ eqb other stream =
      same-test packet.pid pid other stream (λ e. is.apart other within (sym pid-is ∙ e)) (λ e. pid-is ∙ ap (stream_pid layout) e ∙ is.own) in
      same-there (eqb packet.pid pid) (eqb other stream) n (header_bytes (payload_of packet)) (length packet.payload) (headers queued) queued.payload test
      (λ same. (facts same).1) (λ same. (facts same).0)
      ∙ sym (carried kind stream other n headers queued)
    where
      of-same : other ≡ stream → Facts own other queued count at
      of-same e =
          let there : slice_get queues stream ≡ Some (record { kind = named.kind; packets = named.packets }) = ap (λ (k : ℕ). slice_get queues k) (sym e) ∙ named.queue in
          let same : ◌≡◌ {A = Queue} (record { kind = named.kind; packets = named.packets }) (record { kind = kind; packets = packets }) = same_Some _ _ (sym there ∙ this) in
          let kinds : own ≡ kind = own-is ∙ ap (λ (q : Queue). q.kind) same in
          let found : slice_get packets named.place ≡ Some queued = ap (λ (q : Queue). slice_get q.packets named.place) (sym same) ∙ named.there in
          let has : HasItsPiece pieces headers stream kind queued = have named.place queued found in
          let first : IsFirstPiece own queued = subst (λ (k : QueueKind). IsFirstPiece k queued) (sym kinds) has.first in
          let piece = carries layout slot pieces count at other own queued first in
          let own-piece : payload_of (output_packet layout slot pieces count at (piece_sent own other queued)) ≡ pieces stream queued.item queued.piece =
          piece.payload_is ∙ ap (λ (k : ℕ). pieces k queued.item queued.piece) e in
          (ap (λ (p : Payload). length p.bytes) own-piece ∙ has.size, ap header_bytes own-piece ∙ has.header)

      facts : eqb other stream ≡ true → Facts own other queued count at
      facts same = elim (cases_eq other stream) as (λ _. Facts own other queued count at) [
        | inl e ↦ of-same e
        | inr apart ↦ absurd (wrong (eqb other stream) same (ne_eqb other stream apart))
      ]
        where
          wrong : (b : Bool) → b ≡ true → b ≡ false → ⊥
          wrong b yes-is no-is = cc

  row-brings : (kind : QueueKind) (n : ℕ) (row : Row) (packet : PacketRecord) → IsPidOf queues layout programs stream pid kind → IsThis kind → HaveTheirPieces kind
      → IsRowPacket programs queues layout slot pieces row packet → on_pid n packet ≡ arrival_in stream kind headers n row
  row-brings kind n (Reserved sent) packet is this have of =
      ap (on_pid n) of.stands.packet_is ∙ reserved-brings kind sent n of.stands.count of.stands.slot_no is of.named
  row-brings kind n Empty packet is this have of = ap (on_pid n) of.stands.packet_is ∙ empty-brings kind n of.stands.count of.stands.slot_no is
  row-brings kind n (Carries other queued) packet is this have of =
      let named : IsQueuePacket queues other queued = of.named in
      let own-is : kind_at queues other ≡ named.kind = kind-there queues other named.kind named.packets named.queue in
      ap (on_pid n) of.stands.packet_is ∙ queued-brings kind (kind_at queues other) other queued n of.stands.count of.stands.slot_no is this have named own-is

  -- the packets of a stream's PID bring what its rows bring
  pub stream-brings : (kind : QueueKind) (rows : List Row) (stream_packets : List PacketRecord) → IsPidOf queues layout programs stream pid kind → IsThis kind → HaveTheirPieces kind
      → AllZip (IsRowPacket programs queues layout slot pieces) rows stream_packets
      → arrivals_of (λ packet. eqb packet.pid pid) (λ packet. header_bytes (payload_of packet)) 0 stream_packets ≡ arrivals_from 0 stream kind headers rows
  unfolding arrivals_from
  stream-brings kind rows stream_packets is this have zip =
      by-rows (IsRowPacket programs queues layout slot pieces) (λ packet. eqb packet.pid pid) (λ packet. header_bytes (payload_of packet)) (arrival_in stream kind headers)
      (λ n rs. arrivals_from n stream kind headers rs) (λ n row packet of. row-brings kind n row packet is this have of) (λ n. refl) (λ n row rs. refl) 0 rows stream_packets zip
