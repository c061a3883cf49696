-- What a PID carries from a packet on, by the first packet.
use Rattle.std.proofs.Common.{
  ◌≡◌,
  ℕ,
  zero,
  suc,
  ◌+◌,
  ◌-◌,
  ◌*◌,
  ◌/◌,
  ◌<◌,
  ◌≤◌,
  nat_lt,
  Bool,
  true,
  false,
  cond,
  List,
  [],
  ◌∷◌,
  ◌++◌,
  length,
  map,
  filter,
  drop,
  Option,
  Some,
  None,
  is_none,
  refl,
  sym,
  ap,
  subst,
  ◌∙◌,
  length-append,
  length-drop,
  length-take,
  arith,
}
use Rattle.std.specs.Prelude.{option_and_then, ◌==◌}
use Rattle.std.specs.List.{flat_map, filter_map, cons_option, range_with_len}
use Rattle.std.specs.Option.{option_map}
use Rattle.std.proofs.lemmas.Bool.Decides.{nat_tests}
use Rattle.ts_packets.specs.declared.packet.Packet.{Packet}
use Rattle.ts_packets.specs.Packet.{PacketRecord, record_of, packet_identifier, packet_of, transport_refusal, fields_of, has_field, adaptation_field_length}
use Rattle.ts_packets.specs.TransportStream.{Piece, piece_at, piece_count, is_of_pid, pid_pieces}
use Rattle.ts_packets.specs.Carried.{PlacedPacket, placed, has_payload, payload_packets, is_repeat, not_repeated, carried_by}
use Rattle.ts_demux.specs.Payloads.{not_repeated_behind, payload_behind}
use Rattle.ts_demux.specs.Private.PayloadWalk.{with_payload, payload_packet, repeats}
use Rattle.ts_packets.proofs.CarriedLemmas.{placed_at}

-- the n-th packet as a piece
abbrev piece : List ℕ → ℕ → Piece
piece file n = record { at = 188 * n; bytes = piece_at file n }

-- the bytes that packets carry
abbrev bytes_of : List PlacedPacket → List ℕ
bytes_of packets = flat_map (λ carried. carried.payload.bytes) (map carried_by packets)

-- the bytes that packets carry behind the last one
abbrev joined : Option PacketRecord → List PlacedPacket → List ℕ
joined last packets = bytes_of (not_repeated_behind last packets)

-- ---- the first packet of several

by_found : (at : ℕ) (found : Option PacketRecord) (others : List PlacedPacket)
    → filter has_payload (cons_option (option_map (placed_at at) found) others)
    ≡ cons_option (option_map (placed_at at) (option_and_then with_payload found)) (filter has_payload others)
by_found at None others = refl
by_found at (Some packet) others = by_size (nat_lt 0 (length packet.payload))
  where
    by_size : (some : Bool) → cond some (placed_at at packet ∷ filter has_payload others) (filter has_payload others)
        ≡ cons_option (option_map (placed_at at) (cond some (Some packet) None)) (filter has_payload others)
    by_size true = refl
    by_size false = refl

by_pid : (is : Bool) (file : List ℕ) (n : ℕ) (ns : List ℕ) → payload_packets (map (piece file) (cond is (n ∷ ns) ns))
    ≡ cons_option (option_map (placed_at (188 * n)) (cond is (option_and_then with_payload (packet_of (piece_at file n))) None))
    (payload_packets (map (piece file) ns))
by_pid true file n ns = by_found (188 * n) (packet_of (piece_at file n)) (filter_map placed (map (piece file) ns))
by_pid false file n ns = refl

first_of_range : (file : List ℕ) (pid n : ℕ) (ns : List ℕ) → payload_packets (map (piece file) (filter (is_of_pid file pid) (n ∷ ns)))
    ≡ cons_option (option_map (placed_at (188 * n)) (payload_packet pid (piece_at file n)))
    (payload_packets (map (piece file) (filter (is_of_pid file pid) ns)))
first_of_range file pid n ns = by_pid (is_of_pid file pid n) file n (filter (is_of_pid file pid) ns)

first_piece : (file : List ℕ) (pid next : ℕ) → next < piece_count file →
    payload_packets (pid_pieces file pid next (piece_count file))
    ≡ cons_option (option_map (placed_at (188 * next)) (payload_packet pid (piece_at file next)))
    (payload_packets (pid_pieces file pid (next + 1) (piece_count file)))
first_piece file pid next within =
    let more : piece_count file - next ≡ suc (piece_count file - (next + 1)) = omega arith in
    ap (λ (k : ℕ). payload_packets (map (piece file) (filter (is_of_pid file pid) (range_with_len next k)))) more
    ∙ first_of_range file pid next (range_with_len (next + 1) (piece_count file - (next + 1)))

-- ---- what it carries

not_repeated_at : (at : ℕ) (packet : PacketRecord) (others : List PlacedPacket) → not_repeated (placed_at at packet) others ≡ not_repeated (placed_at 0 packet) others
not_repeated_at at packet [] = refl
not_repeated_at at packet (y ∷ others) = refl

first_joined : (last : Option PacketRecord) (at : ℕ) (packet : PacketRecord) (others : List PlacedPacket)
    → joined last (placed_at at packet ∷ others) ≡ cond (repeats last packet) [] packet.payload ++ joined (Some packet) others
first_joined None at packet others = ap (λ (behind : List PlacedPacket). packet.payload ++ bytes_of behind) (not_repeated_at at packet others)
first_joined (Some last) at packet others = by_again (is_repeat packet last)
  where
    by_again : (again : Bool) → bytes_of (cond again (not_repeated (placed_at at packet) others)
        (placed_at at packet ∷ not_repeated (placed_at at packet) others)) ≡ cond again [] packet.payload
        ++ bytes_of (not_repeated (placed_at 0 packet) others)
    by_again true = ap bytes_of (not_repeated_at at packet others)
    by_again false = ap (λ (behind : List PlacedPacket). packet.payload ++ bytes_of behind) (not_repeated_at at packet others)

-- a packet that carries nothing for the PID
pub adds_nothing : (file : List ℕ) (pid next : ℕ) (last : Option Packet) → next < piece_count file → payload_packet pid (piece_at file next) ≡ None
    → payload_behind file pid next last ≡ payload_behind file pid (next + 1) last
adds_nothing file pid next last within none =
    ap (joined (option_map record_of last))
    (first_piece file pid next within
    ∙ ap (λ (found : Option PacketRecord). cons_option (option_map (placed_at (188 * next)) found) (payload_packets (pid_pieces file pid (next + 1) (piece_count file)))) none)

adds : (file : List ℕ) (pid next : ℕ) (last : Option Packet) (packet : Packet) → next < piece_count file → payload_packet pid (piece_at file next) ≡ Some (record_of packet) →
    payload_behind file pid next last ≡ cond (repeats (option_map record_of last) (record_of packet)) [] packet.payload.now ++ payload_behind file pid (next + 1) (Some packet)
adds file pid next last packet within is =
    ap (joined (option_map record_of last))
    (first_piece file pid next within
    ∙ ap (λ (found : Option PacketRecord). cons_option (option_map (placed_at (188 * next)) found) (payload_packets (pid_pieces file pid (next + 1) (piece_count file)))) is)
    ∙ first_joined (option_map record_of last) (188 * next) (record_of packet) (payload_packets (pid_pieces file pid (next + 1) (piece_count file)))

-- a packet that comes again
pub adds_repeat : (file : List ℕ) (pid next : ℕ) (last : Option Packet) (packet : Packet) → next < piece_count file
    → payload_packet pid (piece_at file next) ≡ Some (record_of packet) → repeats (option_map record_of last) (record_of packet) ≡ true →
    payload_behind file pid next last ≡ payload_behind file pid (next + 1) (Some packet)
adds_repeat file pid next last packet within is again =
    adds file pid next last packet within is ∙ ap (λ (b : Bool). cond b [] packet.payload.now ++ payload_behind file pid (next + 1) (Some packet)) again

-- a packet that doesn't
pub adds_payload : (file : List ℕ) (pid next : ℕ) (last : Option Packet) (packet : Packet) → next < piece_count file
    → payload_packet pid (piece_at file next) ≡ Some (record_of packet) → repeats (option_map record_of last) (record_of packet) ≡ false →
    payload_behind file pid next last ≡ packet.payload.now ++ payload_behind file pid (next + 1) (Some packet)
adds_payload file pid next last packet within is again =
    adds file pid next last packet within is ∙ ap (λ (b : Bool). cond b [] packet.payload.now ++ payload_behind file pid (next + 1) (Some packet)) again

-- such a packet has payload
pub some_payload : (pid : ℕ) (bytes : List ℕ) (packet : PacketRecord) → payload_packet pid bytes ≡ Some packet → 0 < length packet.payload
some_payload pid bytes packet = by_test (packet_identifier bytes == pid) (packet_of bytes)
  where
    by_size : (found : PacketRecord) (some : Bool) → nat_lt 0 (length found.payload) ≡ some → cond some (Some found) None ≡ Some packet → 0 < length packet.payload
    by_size found true some e =
        let same : found ≡ packet = cc in
        subst (λ (p : PacketRecord). 0 < length p.payload) same (grind (arith, nat_tests, some))
    by_size found false some e = absurd cc

    by_test : (is : Bool) (found : Option PacketRecord) → cond is (option_and_then with_payload found) None ≡ Some packet → 0 < length packet.payload
    by_test false found e = absurd cc
    by_test true None e = absurd cc
    by_test true (Some found) e = by_size found (nat_lt 0 (length found.payload)) refl e

-- ---- behind the last packet

pub adds_no_more : (file : List ℕ) (pid next : ℕ) (last : Option Packet) → piece_count file ≤ next → payload_behind file pid next last ≡ []
adds_no_more file pid next last end =
    let none : piece_count file - next ≡ 0 = omega arith in
    ap (λ (k : ℕ). joined (option_map record_of last) (payload_packets (map (piece file) (filter (is_of_pid file pid) (range_with_len next k))))) none ∙ nothing (option_map record_of last)
  where
    nothing : (last : Option PacketRecord) → joined last [] ≡ []
    nothing None = refl
    nothing (Some last) = refl

-- ---- no more than the file has

-- a packet's payload is a part of its bytes
fits : (bytes : List ℕ) (packet : PacketRecord) → packet_of bytes ≡ Some packet → length packet.payload ≤ length bytes
fits bytes packet = by_refusal (is_none (transport_refusal bytes))
  where
    by_field : (some : Bool) (n : ℕ) → length (cond some (drop n bytes) (drop 4 bytes)) ≤ length bytes
    by_field true n = omega (arith, length-drop n bytes)
    by_field false n = omega (arith, length-drop 4 bytes)

    by_refusal : (passes : Bool) → cond passes (Some (fields_of bytes)) None ≡ Some packet → length packet.payload ≤ length bytes
    by_refusal true e =
        let same : fields_of bytes ≡ packet = cc in
        subst (λ (p : PacketRecord). length p.payload ≤ length bytes) same (by_field (has_field bytes) (5 + adaptation_field_length bytes))
    by_refusal false e = absurd cc

payload_fits : (pid : ℕ) (bytes : List ℕ) (packet : PacketRecord) → payload_packet pid bytes ≡ Some packet → length packet.payload ≤ length bytes
payload_fits pid bytes packet = by_test (packet_identifier bytes == pid) (packet_of bytes) refl
  where
    by_size : (found : PacketRecord) (some : Bool) → packet_of bytes ≡ Some found → cond some (Some found) None ≡ Some packet → length packet.payload ≤ length bytes
    by_size found true is e =
        let same : packet_of bytes ≡ Some packet = cc in
        fits bytes packet same
    by_size found false is e = absurd cc

    by_test : (is : Bool) (found : Option PacketRecord) → packet_of bytes ≡ found → cond is (option_and_then with_payload found) None ≡ Some packet → length packet.payload ≤ length bytes
    by_test false found of e = absurd cc
    by_test true None of e = absurd cc
    by_test true (Some found) of e = by_size found (nat_lt 0 (length found.payload)) of e

-- one packet adds at most its length
few : (last : Option PacketRecord) (at : ℕ) (found : Option PacketRecord) (others : List PlacedPacket) (most : ℕ)
    → ((packet : PacketRecord) → found ≡ Some packet → length packet.payload ≤ 188)
    → ((last : Option PacketRecord) → length (joined last others) ≤ most) →
    length (joined last (cons_option (option_map (placed_at at) found) others)) ≤ 188 + most
few last at None others most each behind = omega (arith, behind last)
few last at (Some packet) others most each behind =
    subst (λ (bytes : List ℕ). length bytes ≤ 188 + most) (sym (first_joined last at packet others)) (by_again (repeats last packet))
  where
    by_again : (again : Bool) → length (cond again [] packet.payload ++ joined (Some packet) others) ≤ 188 + most
    by_again true = omega (arith, behind (Some packet))
    by_again false = omega (arith, each packet refl, behind (Some packet), length-append packet.payload (joined (Some packet) others))

few_of_range : (file : List ℕ) (pid n k : ℕ) (last : Option PacketRecord) → length (joined last (payload_packets (map (piece file) (filter (is_of_pid file pid) (range_with_len n k))))) ≤ 188 * k
few_of_range file pid n zero None = omega arith
few_of_range file pid n zero (Some last) = omega arith
few_of_range file pid n (suc k) last =
    let each : (packet : PacketRecord) → payload_packet pid (piece_at file n) ≡ Some packet → length packet.payload ≤ 188 =
    λ packet is. omega (arith, payload_fits pid (piece_at file n) packet is, length-take 188 (drop (n * 188) file)) in
    let one : length (joined last (cons_option (option_map (placed_at (188 * n)) (payload_packet pid (piece_at file n)))
    (payload_packets (map (piece file) (filter (is_of_pid file pid) (range_with_len (n + 1) k)))))) ≤ 188 + 188 * k =
    few last (188 * n) (payload_packet pid (piece_at file n))
    (payload_packets (map (piece file) (filter (is_of_pid file pid) (range_with_len (n + 1) k)))) (188 * k) each
    (few_of_range file pid (n + 1) k) in
    let all : length (joined last (payload_packets (map (piece file) (filter (is_of_pid file pid) (range_with_len n (suc k)))))) ≤ 188 + 188 * k =
    subst (λ (packets : List PlacedPacket). length (joined last packets) ≤ 188 + 188 * k) (sym (first_of_range file pid n (range_with_len (n + 1) k))) one in
    omega arith

-- all that a PID carries isn't longer than the file
pub no_longer : (file : List ℕ) (pid : ℕ) → length (payload_behind file pid 0 None) ≤ length file
no_longer file pid =
    let most : length (payload_behind file pid 0 None) ≤ 188 * (piece_count file - 0) = few_of_range file pid 0 (piece_count file - 0) None in
    let count : piece_count file ≡ length file / 188 = refl in
    omega (arith, most, count)

-- ---- bytes in a row

-- no byte is there
pub no_bytes : (bytes : List ℕ) → length bytes ≡ 0 → bytes ≡ []
no_bytes [] none = refl
no_bytes (byte ∷ bytes) none = absurd (omega (arith, none))

-- what is left behind a payload that is used up
pub used_up : (payload left others : List ℕ) → length payload ≡ 0 → payload ++ left ≡ others → left ≡ others
used_up payload left others none is = ap (λ (bytes : List ℕ). bytes ++ left) (sym (no_bytes payload none)) ∙ is
