-- The payloads of a stream's PID are the pieces of its queue's packets, in order.
use Rattle.std.proofs.Common.{◌≡◌, ℕ, suc, ◌<◌, ◌≤◌, ◌⊎◌, Bool, true, false, eqb, eq-eqb, ne_eqb, lt-ltb, if◌then◌else◌, List, [], ◌∷◌, length, map, Some, refl, sym, ap, ap₂, subst, ◌∙◌, inl, inr}
use Rattle.std.specs.Prelude.{◌&&◌, slice_get}
use Rattle.std.specs.List.{AllZip, filter}
use Rattle.std.proofs.lemmas.Bool.{cases_eq}
use Rattle.std.proofs.lemmas.Option.{same_Some, slice_get_within}
use Rattle.bit_lists.specs.Payload.{Payload}
use Rattle.ts_packets.specs.Packet.{PacketRecord}
use Rattle.ts_packets.specs.Carried.{has_payload_on, payload_of, payloads_on}
use Rattle.slot_rule.specs.declared.sent.Sent.{Sent}
use Rattle.slot_rule.specs.declared.sent.Sent.TheVariants.{Null, Pat, Pmt, Pcr, Video as VideoPiece, Audio as AudioPiece}
use Rattle.slot_rule.specs.declared.queue_kind.QueueKind.{QueueKind}
use Rattle.slot_rule.specs.declared.queue_kind.QueueKind.TheVariants.{Video, Audio}
use Rattle.slot_rule.specs.declared.queued_packet.QueuedPacket.{QueuedPacket}
use Rattle.slot_rule.specs.declared.row.Row.{Row}
use Rattle.slot_rule.specs.declared.row.Row.TheVariants.{Reserved, Carries, Empty}
use Rattle.slot_rule.specs.Queues.{Queue}
use Rattle.slot_rule.specs.SlotList.{is_sent_of, kind_at, piece_sent, sent_of}
use Rattle.mux_writer.specs.declared.layout.Layout.{Layout}
use Rattle.mux_writer.specs.declared.packets.TheConstants.{NULL_PID, PAT_PID}
use Rattle.mux_writer.specs.Layout.{map_pid, stream_pid, video_pid}
use Rattle.mux_writer.specs.Output.{output_packet}
use Rattle.mux_writer.specs.Pieces.{Pieces}
use Rattle.clean_laws.proofs.Slots.{IsQueuePacket, IsReserved, IsRowPacket}
use Rattle.clean_laws.proofs.Brought.{IsFirstPiece, IsPidOf, pid-of}

-- ---- lists side by side

-- what passes a test in one list stands beside what passes a test in the other, where both tests agree
pub filter-zip : {A B : Type 0} (R S : A → B → Type 0) (p : A → Bool) (q : B → Bool) → ((x : A) (y : B) → R x y → q y ≡ p x) → ((x : A) (y : B) → R x y → p x ≡ true → S x y)
    → (xs : List A) (ys : List B) → AllZip R xs ys → AllZip S (filter p xs) (filter q ys)
filter-zip R S p q agree keep [] [] zip = tt
filter-zip R S p q agree keep [] (y ∷ ys) zip = absurd zip
filter-zip R S p q agree keep (x ∷ xs) [] zip = absurd zip
filter-zip R S p q agree keep (x ∷ xs) (y ∷ ys) zip = by_test (p x) (q y) (agree x y zip.0) (keep x y zip.0) (filter-zip R S p q agree keep xs ys zip.1)
  where
    by_test : (a b : Bool) → b ≡ a → (a ≡ true → S x y) → AllZip S (filter p xs) (filter q ys)
        → AllZip S (if a then x ∷ filter p xs else filter p xs) (if b then y ∷ filter q ys else filter q ys)
    by_test true true same kept rest = (kept refl, rest)
    by_test false false same kept rest = rest
    by_test true false same kept rest = absurd (let e : false ≡ true = same in cc)
    by_test false true same kept rest = absurd (let e : true ≡ false = same in cc)

-- each item of one list gives what the one beside it gives
pub zip-values : {A B C : Type 0} (f : A → C) (g : B → C) (xs : List A) (ys : List B) → AllZip (λ x y. g y ≡ f x) xs ys → map g ys ≡ map f xs
zip-values f g [] [] zip = refl
zip-values f g [] (y ∷ ys) zip = absurd zip
zip-values f g (x ∷ xs) [] zip = absurd zip
zip-values f g (x ∷ xs) (y ∷ ys) zip = ap₂ (λ (z : _) (zs : List _). z ∷ zs) zip.0 (zip-values f g xs ys zip.1)

filter-map : {A B : Type 0} (f : A → B) (p : B → Bool) (xs : List A) → filter p (map f xs) ≡ map f (filter (λ x. p (f x)) xs)
filter-map f p [] = refl
filter-map f p (x ∷ xs) = by_test (p (f x)) (filter-map f p xs)
  where
    by_test : (b : Bool) → filter p (map f xs) ≡ map f (filter (λ y. p (f y)) xs)
        → (if b then f x ∷ filter p (map f xs) else filter p (map f xs)) ≡ map f (if b then x ∷ filter (λ y. p (f y)) xs else filter (λ y. p (f y)) xs)
    by_test true rest = ap (λ (ys : List _). f x ∷ ys) rest
    by_test false rest = rest

map-twice : {A B C : Type 0} (f : A → B) (g : B → C) (xs : List A) → map g (map f xs) ≡ map (λ x. g (f x)) xs
map-twice f g [] = refl
map-twice f g (x ∷ xs) = ap (λ (ys : List _). g (f x) ∷ ys) (map-twice f g xs)

-- ---- rows that carry packets of the stream

-- the row carries a packet of the queue
abbrev pub is_row_of : (stream : ℕ) → List Queue → Row → Bool
is_row_of stream queues row = is_sent_of stream (sent_of queues row)

of-piece : (kind : QueueKind) (stream other : ℕ) (packet : QueuedPacket) → is_sent_of stream (piece_sent kind other packet) ≡ eqb other stream
of-piece (Video program vbv) stream other packet = refl
of-piece Audio stream other packet = refl

-- the piece of what stands in a slot
abbrev pub piece_of_sent : Pieces → Sent → Payload
piece_of_sent pieces (VideoPiece stream item piece) = pieces stream item piece
piece_of_sent pieces (AudioPiece stream item) = pieces stream item 0
piece_of_sent pieces Null = record { start = false; bytes = [] }
piece_of_sent pieces Pat = record { start = false; bytes = [] }
piece_of_sent pieces (Pmt program) = record { start = false; bytes = [] }
piece_of_sent pieces (Pcr program) = record { start = false; bytes = [] }

-- ---- tests agree

and-false : (a b : Bool) → a ≡ false → (a && b) ≡ false
and-false a b e = ap (λ (x : Bool). x && b) e

no-payload : (a : Bool) → (a && false) ≡ false
no-payload true = refl
no-payload false = refl

and-true : (a b : Bool) → b ≡ true → (a && b) ≡ a
and-true true b e = e
and-true false b e = refl

module _ (queues : List Queue) (layout : Layout) (slot programs : ℕ) (pieces : Pieces) (stream pid : ℕ) where
  -- each packet of a queue has payload
  abbrev pub HavePayload : List QueuedPacket → Type 0
  HavePayload packets = (place : ℕ) (packet : QueuedPacket) → slice_get packets place ≡ Some packet → (kind : QueueKind) → kind_at queues stream ≡ kind
      → 1 ≤ length (piece_of_sent pieces (piece_sent kind stream packet)).bytes

  of-reserved : (sent : Sent) → IsReserved programs sent → is_sent_of stream sent ≡ false
  of-reserved Pat named = refl
  of-reserved (Pmt p) named = refl
  of-reserved (Pcr p) named = refl
  of-reserved Null named = refl
  of-reserved (VideoPiece s item piece) named = absurd named
  of-reserved (AudioPiece s item) named = absurd named

  reserved-agrees : (kind : QueueKind) (sent : Sent) (count at : ℕ) → IsPidOf queues layout programs stream pid kind → IsReserved programs sent
      → has_payload_on pid (output_packet layout slot pieces count at sent) ≡ false
  reserved-agrees kind Pat count at is named = and-false (eqb PAT_PID pid) _ (ne_eqb PAT_PID pid is.no_pat)
  reserved-agrees kind (Pmt p) count at is named = and-false (eqb (map_pid p) pid) _ (ne_eqb (map_pid p) pid (is.no_map p named))
  reserved-agrees kind (Pcr p) count at is named = no-payload (eqb (video_pid p) pid)
  reserved-agrees kind Null count at is named = absurd named
  reserved-agrees kind (VideoPiece s item piece) count at is named = absurd named
  reserved-agrees kind (AudioPiece s item) count at is named = absurd named

  -- what a packet with a piece carries
  piece-carried : (kind : QueueKind) (other : ℕ) (queued : QueuedPacket) (count at : ℕ)
      → payload_of (output_packet layout slot pieces count at (piece_sent kind other queued)) ≡ piece_of_sent pieces (piece_sent kind other queued)
  piece-carried (Video program vbv) other queued count at = refl
  piece-carried Audio other queued count at = refl

  row-agrees : (kind : QueueKind) (packets : List QueuedPacket) (row : Row) (packet : PacketRecord) → IsPidOf queues layout programs stream pid kind
      → slice_get queues stream ≡ Some (record { kind = kind; packets = packets }) → HavePayload packets
      → IsRowPacket programs queues layout slot pieces row packet → has_payload_on pid packet ≡ is_row_of stream queues row
  row-agrees kind packets (Reserved sent) packet is this have of =
      ap (has_payload_on pid) of.stands.packet_is ∙ reserved-agrees kind sent of.stands.count of.stands.slot_no is of.named ∙ sym (of-reserved sent of.named)
  row-agrees kind packets Empty packet is this have of = ap (has_payload_on pid) of.stands.packet_is ∙ and-false (eqb NULL_PID pid) _ (ne_eqb NULL_PID pid is.no_null)
  row-agrees kind packets (Carries other queued) packet is this have of =
      ap (has_payload_on pid) of.stands.packet_is ∙ by_stream (cases_eq other stream) ∙ sym (of-piece own stream other queued)
    where
      own : QueueKind
      own = kind_at queues other

      sent-packet : PacketRecord
      sent-packet = output_packet layout slot pieces of.stands.count of.stands.slot_no (piece_sent (kind_at queues other) other queued)

      pid-is : (output_packet layout slot pieces of.stands.count of.stands.slot_no (piece_sent (kind_at queues other) other queued)).pid ≡ stream_pid layout other
      pid-is = pid-of layout slot pieces of.stands.count of.stands.slot_no other (kind_at queues other) queued

      by_stream : (other ≡ stream) ⊎ (other ≡ stream → ⊥)
          → has_payload_on pid (output_packet layout slot pieces of.stands.count of.stands.slot_no (piece_sent (kind_at queues other) other queued)) ≡ eqb other stream
      by_stream (inr apart) =
          let named : IsQueuePacket queues other queued = of.named in
          let within : other < length queues = slice_get_within queues other _ named.queue in
          and-false _ _ (ne_eqb _ pid (λ e. apart (is.apart other within (sym pid-is ∙ e)))) ∙ sym (ne_eqb other stream apart)
      by_stream (inl e) =
          let named : IsQueuePacket queues other queued = of.named in
          let there : slice_get queues stream ≡ Some (record { kind = named.kind; packets = named.packets }) = ap (λ (k : ℕ). slice_get queues k) (sym e) ∙ named.queue in
          let same : ◌≡◌ {A = Queue} (record { kind = named.kind; packets = named.packets }) (record { kind = kind; packets = packets }) = same_Some _ _ (sym there ∙ this) in
          let found : slice_get packets named.place ≡ Some queued = ap (λ (q : Queue). slice_get q.packets named.place) (sym same) ∙ named.there in
          let some : 1 ≤ length (piece_of_sent pieces (piece_sent (kind_at queues other) stream queued)).bytes =
          have named.place queued found (kind_at queues other) (ap (kind_at queues) (sym e)) in
          let long : 1 ≤ length (output_packet layout slot pieces of.stands.count of.stands.slot_no (piece_sent (kind_at queues other) other queued)).payload =
          subst (λ (n : ℕ). 1 ≤ n)
          (sym (ap (λ (p : Payload). length p.bytes) (piece-carried (kind_at queues other) other queued of.stands.count of.stands.slot_no
          ∙ ap (λ (k : ℕ). piece_of_sent pieces (piece_sent (kind_at queues other) k queued)) e))) some in
          and-true _ _ (lt-ltb 0 _ long) ∙ eq-eqb _ pid (pid-is ∙ ap (stream_pid layout) e ∙ is.own) ∙ sym (eq-eqb other stream e)

  row-carries : (row : Row) (packet : PacketRecord) → IsRowPacket programs queues layout slot pieces row packet → is_row_of stream queues row ≡ true
      → payload_of packet ≡ piece_of_sent pieces (sent_of queues row)
  row-carries (Reserved sent) packet of own = absurd (let e : is_sent_of stream sent ≡ false = of-reserved sent of.named in wrong (is_sent_of stream sent) own e)
    where
      wrong : (b : Bool) → b ≡ true → b ≡ false → ⊥
      wrong b first second = cc
  row-carries Empty packet of own = absurd (let e : false ≡ true = own in cc)
  row-carries (Carries other queued) packet of own =
      ap payload_of of.stands.packet_is ∙ piece-carried (kind_at queues other) other queued of.stands.count of.stands.slot_no

  piece-of-queue : (kind : QueueKind) (packets : List QueuedPacket) → ((place : ℕ) (packet : QueuedPacket) → slice_get packets place ≡ Some packet → IsFirstPiece kind packet)
      → map (λ queued. piece_of_sent pieces (piece_sent kind stream queued)) packets ≡ map (λ queued. pieces stream queued.item queued.piece) packets
  piece-of-queue (Video program vbv) packets first = refl
  piece-of-queue Audio [] first = refl
  piece-of-queue Audio (packet ∷ packets) first =
      ap₂ (λ (p : Payload) (ps : List Payload). p ∷ ps) (ap (λ (k : ℕ). pieces stream packet.item k) (sym (first 0 packet refl)))
      (piece-of-queue Audio packets (λ place queued there. first (suc place) queued there))

  -- the payloads of the stream's PID
  pub payloads-are : (kind : QueueKind) (packets : List QueuedPacket) (rows : List Row) (stream_packets : List PacketRecord) → IsPidOf queues layout programs stream pid kind
      → slice_get queues stream ≡ Some (record { kind = kind; packets = packets }) → HavePayload packets
      → ((place : ℕ) (packet : QueuedPacket) → slice_get packets place ≡ Some packet → IsFirstPiece kind packet)
      → filter (is_sent_of stream) (map (sent_of queues) rows) ≡ map (piece_sent kind stream) packets
      → AllZip (IsRowPacket programs queues layout slot pieces) rows stream_packets
      → payloads_on pid stream_packets ≡ map (λ queued. pieces stream queued.item queued.piece) packets
  payloads-are kind packets rows stream_packets is this have first in_order zip =
      let beside : AllZip (λ row packet. payload_of packet ≡ piece_of_sent pieces (sent_of queues row)) (filter (is_row_of stream queues) rows) (filter (has_payload_on pid) stream_packets) =
      filter-zip (IsRowPacket programs queues layout slot pieces) (λ row packet. payload_of packet ≡ piece_of_sent pieces (sent_of queues row))
      (is_row_of stream queues) (has_payload_on pid) (λ row packet of. row-agrees kind packets row packet is this have of) row-carries rows stream_packets zip in
      zip-values (λ row. piece_of_sent pieces (sent_of queues row)) payload_of (filter (is_row_of stream queues) rows) (filter (has_payload_on pid) stream_packets) beside
      ∙ sym (map-twice (sent_of queues) (piece_of_sent pieces) (filter (is_row_of stream queues) rows))
      ∙ ap (map (piece_of_sent pieces)) (sym (filter-map (sent_of queues) (is_sent_of stream) rows) ∙ in_order)
      ∙ map-twice (piece_sent kind stream) (piece_of_sent pieces) packets
      ∙ piece-of-queue kind packets first
