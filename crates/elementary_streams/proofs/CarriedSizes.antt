-- How many PES packets a PID carries, and how many bytes: no more than the file has.
use Rattle.std.proofs.Common.{◌≡◌, ℕ, suc, ◌+◌, ◌-◌, ◌*◌, ◌^◌, ◌≤◌, Bool, true, false, cond, List, [], ◌∷◌, ◌++◌, length, map, filter, drop, All, Option, Some, None, refl, ap, ◌∙◌, subst, arith}
use Rattle.std.specs.List.{sum_by, filter_map, range_with_len}
use Rattle.std.specs.Option.{is_none}
use Rattle.std.proofs.lemmas.List.{length-append, length-drop, length-take}
use Rattle.std.proofs.lemmas.List.Elements.{All-cons, All-head, All-nil, All-tail}
use Rattle.std.proofs.lemmas.List.FromFn.{length-range_with_len}
use Rattle.std.proofs.lemmas.List.Sums.{sum_by-cons}
use Rattle.bit_lists.specs.Payload.{CarriedPayload, is_start}
use Rattle.pes_units.specs.PesPackets.{Gathered, up_to_start, gathered}
use Rattle.psi_tables.specs.declared.stream.Stream.{Stream}
use Rattle.ts_demux.specs.declared.demuxed.PesUnit.{PesUnit}
use Rattle.ts_demux.specs.declared.pid_places.Place.{Place}
use Rattle.ts_demux.specs.Demux.{pes_packets_on}
use Rattle.ts_demux.specs.PidPlaces.{place_at, places_on}
use Rattle.ts_demux.specs.Tables.{piece}
use Rattle.ts_packets.specs.Carried.{PlacedPacket, placed, has_payload, payload_packets, is_repeat, not_repeated, without_repeats, carried_by, carried}
use Rattle.ts_packets.specs.Packet.{PacketRecord, packet_of, transport_refusal, fields_of, has_field, adaptation_field_length}
use Rattle.ts_packets.specs.TransportStream.{Piece, piece_count, is_of_pid}

-- ---- PES packets of payloads

abbrev payload_bytes : List CarriedPayload → ℕ
payload_bytes [] = 0
payload_bytes (c ∷ cs) = length c.payload.bytes + payload_bytes cs

abbrev gathered_bytes : List Gathered → ℕ
gathered_bytes [] = 0
gathered_bytes (g ∷ gs) = length g.bytes + gathered_bytes gs

-- no more bytes and no more packets than there are payloads
abbrev AreWithin : List CarriedPayload → List Gathered → (before : ℕ) → Type 0
AreWithin cs gs before = (gathered_bytes gs + before ≤ payload_bytes cs) × (length gs ≤ length cs)

gathered_within : (cs : List CarriedPayload) → AreWithin cs (gathered cs) (length (up_to_start cs))
gathered_within [] = (omega arith, omega arith)
gathered_within (c ∷ cs) = by_start (is_start c.payload) (gathered_within cs)
  where
    by_start : (start : Bool) → AreWithin cs (gathered cs) (length (up_to_start cs)) →
        AreWithin (c ∷ cs) (cond start (record { at = c.at; bytes = c.payload.bytes ++ up_to_start cs } ∷ gathered cs) (gathered cs))
        (length (cond start [] (c.payload.bytes ++ up_to_start cs)))
    by_start true rest = (omega (arith, rest.0, length-append c.payload.bytes (up_to_start cs)), omega (arith, rest.1))
    by_start false rest = (omega (arith, rest.0, length-append c.payload.bytes (up_to_start cs)), omega (arith, rest.1))

-- ---- payloads of packets

abbrev packet_bytes : List PlacedPacket → ℕ
packet_bytes [] = 0
packet_bytes (p ∷ ps) = length p.packet.payload + packet_bytes ps

carried_same : (ps : List PlacedPacket) → (payload_bytes (map carried_by ps) ≡ packet_bytes ps) × (length (map carried_by ps) ≡ length ps)
carried_same [] = (refl, refl)
carried_same (p ∷ ps) = let rest = carried_same ps in (ap (λ (n : ℕ). length p.packet.payload + n) rest.0, ap suc rest.1)

abbrev IsLess : List PlacedPacket → List PlacedPacket → Type 0
IsLess ps qs = (length ps ≤ length qs) × (packet_bytes ps ≤ packet_bytes qs)

not_repeated_less : (before : PlacedPacket) (ps : List PlacedPacket) → IsLess (not_repeated before ps) ps
not_repeated_less before [] = (omega arith, omega arith)
not_repeated_less before (p ∷ ps) = by_test (is_repeat p.packet before.packet) (not_repeated_less p ps)
  where
    by_test : (again : Bool) → IsLess (not_repeated p ps) ps → IsLess (cond again (not_repeated p ps) (p ∷ not_repeated p ps)) (p ∷ ps)
    by_test true rest = (omega (arith, rest.0), omega (arith, rest.1))
    by_test false rest = (omega (arith, rest.0), omega (arith, rest.1))

repeats_less : (ps : List PlacedPacket) → IsLess (without_repeats ps) ps
repeats_less [] = (omega arith, omega arith)
repeats_less (p ∷ ps) = let rest = not_repeated_less p ps in (omega (arith, rest.0), omega (arith, rest.1))

filter_less : (ps : List PlacedPacket) → IsLess (filter has_payload ps) ps
filter_less [] = (omega arith, omega arith)
filter_less (p ∷ ps) = by_test (has_payload p) (filter_less ps)
  where
    by_test : (some : Bool) → IsLess (filter has_payload ps) ps → IsLess (cond some (p ∷ filter has_payload ps) (filter has_payload ps)) (p ∷ ps)
    by_test true rest = (omega (arith, rest.0), omega (arith, rest.1))
    by_test false rest = (omega (arith, rest.0), omega (arith, rest.1))

-- ---- packets of pieces of at most 188 bytes

payload_less : (bytes : List ℕ) (packet : PacketRecord) → packet_of bytes ≡ Some packet → length packet.payload ≤ length bytes
payload_less bytes packet is = by_refusal (is_none (transport_refusal bytes)) is
  where
    by_field : (some : Bool) (n : ℕ) → length (cond some (drop (5 + n) bytes) (drop 4 bytes)) ≤ length bytes
    by_field true n = omega (arith, length-drop (5 + n) bytes)
    by_field false n = omega (arith, length-drop 4 bytes)

    by_refusal : (none : Bool) → cond none (Some (fields_of bytes)) None ≡ Some packet → length packet.payload ≤ length bytes
    by_refusal false is = absurd cc
    by_refusal true is =
        let same : fields_of bytes ≡ packet = cc in
        subst (λ (p : PacketRecord). length p.payload ≤ length bytes) same (by_field (has_field bytes) (adaptation_field_length bytes))

abbrev IsShort : Piece → Type 0
IsShort short = length short.bytes ≤ 188

placed_less : (pieces : List Piece) → All IsShort pieces → (length (filter_map placed pieces) ≤ length pieces) × (packet_bytes (filter_map placed pieces) ≤ 188 * length pieces)
placed_less [] short = (omega arith, omega arith)
placed_less (x ∷ xs) short = by_packet (packet_of x.bytes) refl (placed_less xs (All-tail IsShort x xs short)) (All-head IsShort x xs short)
  where
    by_packet : (found : Option PacketRecord) → packet_of x.bytes ≡ found →
        (length (filter_map placed xs) ≤ length xs) × (packet_bytes (filter_map placed xs) ≤ 188 * length xs) → length x.bytes ≤ 188 →
        (length (filter_map placed (x ∷ xs)) ≤ suc (length xs)) × (packet_bytes (filter_map placed (x ∷ xs)) ≤ 188 * suc (length xs))
    by_packet None is rest size = rw is (omega (arith, rest.0), omega (arith, rest.1))
    by_packet (Some packet) is rest size =
        let less : length packet.payload ≤ length x.bytes = payload_less x.bytes packet is in
        rw is (omega (arith, rest.0), omega (arith, rest.1, less, size))

-- ---- the packets of a file

pub filter_count : (test : ℕ → Bool) (ks : List ℕ) → length (filter test ks) ≤ length ks
filter_count test [] = omega arith
filter_count test (k ∷ ks) = by_test (test k) (filter_count test ks)
  where
    by_test : (some : Bool) → length (filter test ks) ≤ length ks → length (cond some (k ∷ filter test ks) (filter test ks)) ≤ suc (length ks)
    by_test true rest = omega (arith, rest)
    by_test false rest = omega (arith, rest)

pieces_of : (file : List ℕ) (ks : List ℕ) → All IsShort (map (piece file) ks) × (length (map (piece file) ks) ≡ length ks)
pieces_of file [] = (All-nil IsShort, refl)
pieces_of file (k ∷ ks) =
    let rest = pieces_of file ks in
    (All-cons IsShort (piece file k) (map (piece file) ks) (omega (arith, length-take 188 (drop (k * 188) file))) rest.0, ap suc rest.1)

numbers_few : (file : List ℕ) (pid n : ℕ) → length (filter (is_of_pid file pid) (range_with_len 0 n)) ≤ n
numbers_few file pid n = omega (arith, filter_count (is_of_pid file pid) (range_with_len 0 n), length-range_with_len 0 n)

places_count : (file : List ℕ) (pid : ℕ) (ks : List ℕ) → length (map (place_at file pid) ks) ≡ length ks
places_count file pid [] = refl
places_count file pid (k ∷ ks) = ap suc (places_count file pid ks)

-- the packets of a PID
pub places_few : (file : List ℕ) (pid : ℕ) → length (places_on file pid) ≤ piece_count file
places_few file pid = omega (arith, places_count file pid (filter (is_of_pid file pid) (range_with_len 0 (piece_count file))), numbers_few file pid (piece_count file))

pub places_most : (file : List ℕ) (pid : ℕ) (places : List Place) → places ≡ places_on file pid → piece_count file ≤ 2 ^ 32 → length places ≤ 2 ^ 32
places_most file pid places is few = let same = ap (λ (ps : List Place). length ps) is in omega (arith, same, places_few file pid, few)

abbrev unit_of : Gathered → PesUnit
unit_of g = record { at = g.at; bytes = g.bytes }

units_same : (gs : List Gathered) → (sum_by (λ packet. length packet.bytes) (map unit_of gs) ≡ gathered_bytes gs) × (length (map unit_of gs) ≡ length gs)
units_same [] = (refl, refl)
units_same (g ∷ gs) =
    let rest = units_same gs in (
      sum_by-cons (λ (packet : PesUnit). length packet.bytes) (unit_of g) (map unit_of gs) ∙ ap (λ (n : ℕ). length g.bytes + n) rest.0,
      ap suc rest.1,
    )

-- the PES packets that some pieces carry
abbrev AreUnitsWithin : List PesUnit → (pieces : ℕ) → Type 0
AreUnitsWithin units pieces = (length units ≤ pieces) × (sum_by (λ packet. length packet.bytes) units ≤ 188 * pieces)

units_within : (pieces : List Piece) → All IsShort pieces → AreUnitsWithin (map unit_of (gathered (carried pieces))) (length pieces)
units_within pieces short =
    let all = placed_less pieces short in
    let full = filter_less (filter_map placed pieces) in
    let once = repeats_less (payload_packets pieces) in
    let same = carried_same (without_repeats (payload_packets pieces)) in
    let within = gathered_within (carried pieces) in
    let units = units_same (gathered (carried pieces)) in
    (omega (arith, units.1, within.1, same.1, once.0, full.0, all.0), omega (arith, units.0, within.0, same.0, once.1, full.1, all.1))

-- those of a stream
pub units_few : (file : List ℕ) (stream : Stream) → AreUnitsWithin (pes_packets_on file stream).units (piece_count file)
units_few file stream =
    let ks = filter (is_of_pid file stream.pid) (range_with_len 0 (piece_count file - 0)) in
    let pieces = pieces_of file ks in
    let within : AreUnitsWithin (pes_packets_on file stream).units (length (map (piece file) ks)) = units_within (map (piece file) ks) pieces.0 in
    let few = numbers_few file stream.pid (piece_count file - 0) in
    (omega (arith, within.0, pieces.1, few), omega (arith, within.1, pieces.1, few))
