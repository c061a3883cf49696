-- What pieces of a file of counted packets carry.
use Rattle.std.proofs.Common.{
  ◌≡◌,
  ℕ,
  zero,
  suc,
  ◌+◌,
  ◌-◌,
  ◌*◌,
  ◌%◌,
  ◌<◌,
  ◌≤◌,
  ◌==◌,
  nat_lt,
  Bool,
  true,
  false,
  not,
  cond,
  List,
  [],
  ◌∷◌,
  ◌++◌,
  length,
  get_or,
  map,
  filter,
  take,
  drop,
  Option,
  Some,
  None,
  refl,
  sym,
  ap,
  ap₂,
  ◌∙◌,
  subst,
  arith,
}
use Rattle.std.specs.Prelude.{option_and_then, slice_get}
use Rattle.std.specs.List.{range_with_len, last_or}
use Rattle.std.specs.Option.{option_map, option_map_or, option_or}
use Rattle.std.proofs.lemmas.Bool.{and_left, and_right, eqb-true, eq-eqb}
use Rattle.std.proofs.lemmas.List.{drop_more, get_or-drop, get_or-map, length-map, length-drop, take-append-drop}
use Rattle.std.proofs.lemmas.Option.{get_or_from_slice_get, slice_get_within}
use Rattle.std.proofs.Math.Seq.{take-suc}
use Rattle.std.proofs.lemmas.List.Elements.{filter-append}
use Rattle.std.proofs.lemmas.List.FromFn.{get_or-map-range_with_len, length-map-range_with_len}
use Rattle.stream_constants.specs.declared.packets.TheConstants.{PACKET_BYTES}
use Rattle.bit_lists.specs.Payload.{Payload, CarriedPayload}
use Rattle.ts_packets.specs.declared.packet_fault.PacketFault.{PacketFault}
use Rattle.ts_packets.specs.declared.pid_fault.PidFault.TheVariants.{Refused}
use Rattle.ts_packets.specs.Packet.{PacketRecord, fields_of, packet_identifier, packet_of, transport_refusal}
use Rattle.ts_packets.specs.TransportStream.{Piece, is_of_pid, packets, piece_at, piece_count, pid_pieces}
use Rattle.ts_packets.specs.Carried.{
  PlacedPacket,
  carried,
  carried_by,
  follows,
  has_gap,
  has_payload_on,
  is_discontinuous,
  is_late_discontinuity,
  is_repeat,
  not_repeated,
  order_fault,
  payload_of,
  payload_packets,
  payloads_on,
  pid_fault,
  placed,
  without_repeats,
}
use Rattle.layer_laws.specs.Counted.{AreCounted, RiseByOne}

-- ---- packets that rise by one are no repeats

abbrev records : List PlacedPacket → List PacketRecord
records placed = map (λ (packet : PlacedPacket). packet.packet) placed

no_repeat : (packet before : PacketRecord) → packet.counter ≡ (before.counter + 1) % 16 → is_repeat packet before ≡ false
no_repeat packet before next = and_left _ _ (by_test (packet.counter == before.counter) refl)
  where
    by_test : (same : Bool) → (packet.counter == before.counter) ≡ same → (packet.counter == before.counter) ≡ false
    by_test false is = is
    by_test true is = absurd (omega (arith, next, eqb-true packet.counter before.counter is))

none_repeated : (before : PlacedPacket) (packets : List PlacedPacket) → RiseByOne (records (before ∷ packets)) → not_repeated before packets ≡ packets
none_repeated before [] rise = refl
none_repeated before (next ∷ packets) rise =
    ap (λ (again : Bool). cond again (not_repeated next packets) (next ∷ not_repeated next packets)) (no_repeat next.packet before.packet rise.0)
    ∙ ap (λ (rest : List PlacedPacket). next ∷ rest) (none_repeated next packets rise.1)

all_carried : (packets : List PlacedPacket) → RiseByOne (records packets) → without_repeats packets ≡ packets
all_carried [] rise = refl
all_carried (first ∷ packets) rise = ap (λ (rest : List PlacedPacket). first ∷ rest) (none_repeated first packets rise)

payloads-of : (packets : List PlacedPacket) → map (λ (carried : CarriedPayload). carried.payload) (map carried_by packets) ≡ map payload_of (records packets)
payloads-of [] = refl
payloads-of (first ∷ packets) = ap (λ (rest : List Payload). payload_of first.packet ∷ rest) (payloads-of packets)

-- ---- a part of a list that rises

rise-tail : (packet : PacketRecord) (packets : List PacketRecord) → RiseByOne (packet ∷ packets) → RiseByOne packets
rise-tail packet [] rise = tt
rise-tail packet (next ∷ packets) rise = rise.1

rise-behind : (front behind : List PacketRecord) → RiseByOne (front ++ behind) → RiseByOne behind
rise-behind [] behind rise = rise
rise-behind (packet ∷ front) behind rise = rise-behind front behind (rise-tail packet (front ++ behind) rise)

rise-front : (front behind : List PacketRecord) → RiseByOne (front ++ behind) → RiseByOne front
rise-front [] behind rise = tt
rise-front (packet ∷ []) behind rise = tt
rise-front (packet ∷ next ∷ front) behind rise = (rise.0, rise-front (next ∷ front) behind rise.1)

rise-last : (packets : List PlacedPacket) (last : PlacedPacket) (packet : PacketRecord) → RiseByOne (records packets ++ packet ∷ []) → last_or None packets ≡ Some last
    → packet.counter ≡ (last.packet.counter + 1) % 16
rise-last packets last packet rise is = from None packets (λ other none. absurd cc) rise is
  where
    from : (before : Option PlacedPacket) (packets : List PlacedPacket) → ((other : PlacedPacket) → before ≡ Some other → RiseByOne (other.packet ∷ (records packets ++ packet ∷ [])))
        → RiseByOne (records packets ++ packet ∷ []) → last_or before packets ≡ Some last → packet.counter ≡ (last.packet.counter + 1) % 16
    from before [] next rise is = (next last is).0
    from before (first ∷ packets) next rise is =
        from (Some first) packets (λ other same. subst (λ (p : PlacedPacket). RiseByOne (p.packet ∷ (records packets ++ packet ∷ []))) (let e : first ≡ other = cc in e) rise)
        (rise-tail first.packet (records packets ++ packet ∷ []) rise) is

-- ---- the packets of a file

pub no_packet : PacketRecord
no_packet = record { pid = 0; start = false; counter = 0; field = None; payload = [] }

module _ (file : List ℕ) (list : List PacketRecord) (read : packets file ≡ map Some list) where
  pub as_many : piece_count file ≡ length list
  as_many = sym (length-map-range_with_len (λ (n : ℕ). packet_of (piece_at file n)) 0 (piece_count file)) ∙ ap length read ∙ length-map list Some

  pub packet_at : (n : ℕ) → n < length list → packet_of (piece_at file n) ≡ Some (get_or list n no_packet)
  packet_at n within =
      sym (get_or-map-range_with_len (λ (k : ℕ). packet_of (piece_at file k)) 0 (piece_count file) n n None (omega (arith, within, as_many)) (omega arith))
      ∙ ap (λ (found : List (Option PacketRecord)). get_or found n None) read
      ∙ get_or-map Some list n no_packet None within

-- what is kept of bytes that are a packet
record IsOf (packet : PacketRecord) (bytes : List ℕ) : Type 0 where
  pub passes : transport_refusal bytes ≡ None
  pub is : packet_of bytes ≡ Some packet
  pub fields : fields_of bytes ≡ packet
  pub pid : packet_identifier bytes ≡ packet.pid

is_of : (packet : PacketRecord) (bytes : List ℕ) → packet_of bytes ≡ Some packet → IsOf packet bytes
is_of packet bytes is = by_refusal (transport_refusal bytes) refl
  where
    by_refusal : (found : Option PacketFault) → transport_refusal bytes ≡ found → IsOf packet bytes
    by_refusal None none =
        let same : Some (fields_of bytes) ≡ Some packet = sym (let e : packet_of bytes ≡ Some (fields_of bytes) = rw none refl in e) ∙ is in
        let fields : fields_of bytes ≡ packet = cc in
        record { passes = none; is = is; fields = fields; pid = ap (λ (p : PacketRecord). p.pid) fields }
    by_refusal (Some fault) found = absurd (let none : packet_of bytes ≡ None = rw found refl in let both : Some packet ≡ None = sym is ∙ none in cc)

-- the packet of a number, and its PID
pub stands : (file : List ℕ) (list : List PacketRecord) (n : ℕ) (packet : PacketRecord) → packets file ≡ map Some list → slice_get list n ≡ Some packet
    → (packet_of (piece_at file n) ≡ Some packet) × (packet_identifier (piece_at file n) ≡ packet.pid)
stands file list n packet read found =
    let within : n < length list = slice_get_within list n packet found in
    let is : packet_of (piece_at file n) ≡ Some packet = packet_at file list read n within ∙ ap (λ (p : PacketRecord). Some p) (get_or_from_slice_get list n packet no_packet found) in
    (is, (is_of packet (piece_at file n) is).pid)

-- ---- pieces from a packet on

abbrev piece_of : List ℕ → ℕ → Piece
piece_of file n = record { at = PACKET_BYTES * n; bytes = piece_at file n }

abbrev of_range : List ℕ → ℕ → ℕ → ℕ → List Piece
of_range file pid from n = map (piece_of file) (filter (is_of_pid file pid) (range_with_len from n))

one_piece : (pid : ℕ) (packet : PacketRecord) (piece : Piece) (rest : List Piece) (more : List PacketRecord) (same : Bool) → IsOf packet piece.bytes → (packet.pid == pid) ≡ same
    → records (payload_packets rest) ≡ filter (has_payload_on pid) more
    → records (payload_packets (cond same (piece ∷ rest) rest)) ≡ filter (has_payload_on pid) (packet ∷ more)
one_piece pid packet piece rest more false is same others = rw (same) others
one_piece pid packet piece rest more true is same others = rw (is.is, same) (by_payload (nat_lt 0 (length packet.payload)))
  where
    by_payload : (some : Bool) → records (cond some (record { at = piece.at; packet = packet } ∷ payload_packets rest) (payload_packets rest))
        ≡ cond some (packet ∷ filter (has_payload_on pid) more) (filter (has_payload_on pid) more)
    by_payload true = ap (λ (packets : List PacketRecord). packet ∷ packets) others
    by_payload false = others

opened : (file : List ℕ) (same : Bool) (n : ℕ) (more : List ℕ) → map (piece_of file) (cond same (n ∷ more) more) ≡ cond same (piece_of file n ∷ map (piece_of file) more) (map (piece_of file) more)
opened file true n more = refl
opened file false n more = refl

module _ (file : List ℕ) (list : List PacketRecord) (pid : ℕ) (read : packets file ≡ map Some list) where
  in_range : (n from : ℕ) → from + n ≤ length list → records (payload_packets (of_range file pid from n)) ≡ filter (has_payload_on pid) (take n (drop from list))
  in_range zero from within = refl
  in_range (suc n) from within =
      let packet : PacketRecord = get_or list from no_packet in
      let is : IsOf packet (piece_at file from) = is_of packet (piece_at file from) (packet_at file list read from (omega (arith, within))) in
      let rest : List Piece = of_range file pid (from + 1) n in
      ap (λ (pieces : List Piece). records (payload_packets pieces)) (opened file (is_of_pid file pid from) from (filter (is_of_pid file pid) (range_with_len (from + 1) n)))
      ∙ one_piece pid packet (piece_of file from) rest (take n (drop (from + 1) list)) (is_of_pid file pid from) is (ap (λ (k : ℕ). k == pid) (sym is.pid))
      (in_range n (from + 1) (omega (arith, within)))
      ∙ ap (λ (left : List PacketRecord). filter (has_payload_on pid) (take (suc n) left)) (sym (drop_more list from no_packet (omega (arith, within))))

  -- a part of the list rises
  part_rises : (n from : ℕ) → RiseByOne (filter (has_payload_on pid) list) → RiseByOne (filter (has_payload_on pid) (take n (drop from list)))
  part_rises n from rise =
      let test : PacketRecord → Bool = has_payload_on pid in
      let split : filter test list ≡ filter test (take from list) ++ (filter test (take n (drop from list)) ++ filter test (drop n (drop from list))) =
      ap (filter test) (sym (take-append-drop from list)) ∙ filter-append test (take from list) (drop from list)
      ∙ ap (λ (rest : List PacketRecord). filter test (take from list) ++ rest)
      (ap (filter test) (sym (take-append-drop n (drop from list))) ∙ filter-append test (take n (drop from list)) (drop n (drop from list))) in
      rise-front (filter test (take n (drop from list))) (filter test (drop n (drop from list)))
      (rise-behind (filter test (take from list)) _ (subst RiseByOne split rise))

  pub carried-are : (from to : ℕ) → AreCounted pid list → from ≤ to → to ≤ length list
      → map (λ (carried : CarriedPayload). carried.payload) (carried (pid_pieces file pid from to)) ≡ payloads_on pid (take (to - from) (drop from list))
  carried-are from to counted begun within =
      let found : List PlacedPacket = payload_packets (pid_pieces file pid from to) in
      let are : records found ≡ filter (has_payload_on pid) (take (to - from) (drop from list)) = in_range (to - from) from (omega (arith, begun, within)) in
      ap (λ (packets : List PlacedPacket). map (λ (carried : CarriedPayload). carried.payload) (map carried_by packets))
      (all_carried found (subst RiseByOne (sym are) (part_rises (to - from) from counted.counters)))
      ∙ payloads-of found ∙ ap (map payload_of) are

  -- ---- no fault

  goes_on : (found : List PlacedPacket) (packet : PacketRecord) (last : Option PlacedPacket) → last_or None found ≡ last → RiseByOne (records found ++ packet ∷ [])
      → option_map_or (λ (last : PlacedPacket). not (follows packet last.packet)) (last_or None found) false ≡ false
  goes_on found packet None is rise = rw is refl
  goes_on found packet (Some last) is rise = rw (is, eq-eqb packet.counter ((last.packet.counter + 1) % 16) (rise-last found last packet rise is)) refl

  part_more : (from n : ℕ) → from ≤ n → n < length list → take (suc (n - from)) (drop from list) ≡ take (n - from) (drop from list) ++ get_or list n no_packet ∷ []
  part_more from n begun within =
      let place : from + (n - from) ≡ n = omega (arith, begun) in
      take-suc (drop from list) (n - from) no_packet (omega (arith, begun, within, length-drop from list))
      ∙ ap (λ (packet : PacketRecord). take (n - from) (drop from list) ++ packet ∷ []) (get_or-drop from list (n - from) no_packet ∙ ap (λ (k : ℕ). get_or list k no_packet) place)

  no_gap : (from n : ℕ) → AreCounted pid list → from ≤ n → n < length list → is_of_pid file pid n ≡ true → (some : Bool) → nat_lt 0 (length (get_or list n no_packet).payload) ≡ some
      → has_gap (pid_pieces file pid from n) (get_or list n no_packet) ≡ false
  no_gap from n counted begun within of false is = and_left _ _ is
  no_gap from n counted begun within of true is =
      let packet : PacketRecord = get_or list n no_packet in
      let test : PacketRecord → Bool = has_payload_on pid in
      let is_packet : IsOf packet (piece_at file n) = is_of packet (piece_at file n) (packet_at file list read n within) in
      let found : List PlacedPacket = payload_packets (pid_pieces file pid from n) in
      let same : (packet.pid == pid) ≡ true = ap (λ (k : ℕ). k == pid) (sym is_packet.pid) ∙ of in
      let kept : filter test (packet ∷ []) ≡ packet ∷ [] = rw (same, is) refl in
      let all : filter test (take (suc (n - from)) (drop from list)) ≡ records found ++ packet ∷ [] =
      ap (filter test) (part_more from n begun within) ∙ filter-append test (take (n - from) (drop from list)) (packet ∷ [])
      ∙ ap₂ (λ (xs ys : List PacketRecord). xs ++ ys) (sym (in_range (n - from) from (omega (arith, begun, within)))) kept in
      and_right _ _ (goes_on found packet (last_or None found) refl (subst RiseByOne all (part_rises (suc (n - from)) from counted.counters)))

  not_late : (before : List Piece) (packet : PacketRecord) → is_discontinuous packet ≡ false → is_late_discontinuity before packet ≡ false
  not_late [] packet none = refl
  not_late (_ ∷ _) packet none = none

  in_order : (before : List Piece) (packet : PacketRecord) → is_late_discontinuity before packet ≡ false → has_gap before packet ≡ false → order_fault before packet ≡ None
  in_order before packet early close = rw (early, close) refl

  in_turn : (before : List Piece) (packet : PacketRecord) (found : Option PacketFault) (made : Option PacketRecord) → found ≡ None → made ≡ Some packet
      → option_or (option_map Refused found) (option_and_then (order_fault before) made) ≡ order_fault before packet
  in_turn before packet found made none is = rw (none, is) refl

  pub sound-are : (from n : ℕ) → AreCounted pid list → from ≤ n → n < length list → is_of_pid file pid n ≡ true → pid_fault (pid_pieces file pid from n) (piece_of file n) ≡ None
  sound-are from n counted begun within of =
      let packet : PacketRecord = get_or list n no_packet in
      let is_packet : IsOf packet (piece_at file n) = is_of packet (piece_at file n) (packet_at file list read n within) in
      let order : order_fault (pid_pieces file pid from n) packet ≡ None =
      in_order (pid_pieces file pid from n) packet (not_late (pid_pieces file pid from n) packet (counted.continuous n no_packet within))
      (no_gap from n counted begun within of (nat_lt 0 (length packet.payload)) refl) in
      in_turn (pid_pieces file pid from n) packet (transport_refusal (piece_at file n)) (packet_of (piece_at file n)) is_packet.passes is_packet.is ∙ order
