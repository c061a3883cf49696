-- What the definitions say together: one record for a packet, and files piece by piece.
use Rattle.std.proofs.Common.{◌≡◌, ℕ, zero, suc, ◌+◌, ◌*◌, ◌/◌, ◌<◌, List, [], ◌∷◌, ◌++◌, Option, Some, None, map, length, take, drop, refl, sym, ap, ◌∙◌, length-append, append_assoc, arith}
use Rattle.std.specs.Prelude.{◌↔◌}
use Rattle.std.specs.List.{AllByRecursion, flat_map, range_with_len}
use Rattle.std.specs.Fork.{slice_chunk}
use Rattle.std.proofs.lemmas.List.{take_at, drop_at, drop-drop}
use Rattle.ts_packets.specs.Packet.{PacketRecord, IsPacket, transport_refusal, packet_of, fields_of, IsWritable, written}
use Rattle.ts_packets.specs.TransportStream.{packets, rest_of}
use Rattle.ts_packets.proofs.Refusals.{packet-passes, passes-packet, packet-found}
use Rattle.ts_packets.proofs.WrittenPackets.{written-packet}

-- bytes are one packet at most
pub one_record : (packet other : PacketRecord) (bytes : List ℕ) → IsPacket packet bytes → IsPacket other bytes → packet ≡ other
one_record packet other bytes is other_is = is.fields ∙ sym other_is.fields

-- 188 bytes have a record exactly where nothing refuses them
pub has_record : (bytes : List ℕ) → length bytes ≡ 188 → (transport_refusal bytes ≡ None) ↔ ((packet : PacketRecord) × IsPacket packet bytes)
has_record bytes size = (λ passes. (fields_of bytes, passes-packet _ bytes size passes refl), λ found. packet-passes found.0 bytes found.1)

-- ---- a file whose first piece has 188 bytes

-- a list from the places that follow
map_shifted : {X : Type 0} (f g : ℕ → X) (a n : ℕ) → ((k : ℕ) → f (k + 1) ≡ g k) → map f (range_with_len (a + 1) n) ≡ map g (range_with_len a n)
map_shifted f g a zero same = refl
map_shifted f g a (suc n) same =
    let first : f (a + 1) ≡ g a = same a in
    let others : map f (range_with_len (a + 1 + 1) n) ≡ map g (range_with_len (a + 1) n) = map_shifted f g (a + 1) n same in
    cc

-- what stands behind the first piece
drop-behind : (piece file : List ℕ) (n : ℕ) → length piece ≡ 188 → drop (188 + n) (piece ++ file) ≡ drop n file
drop-behind piece file n size = sym (drop-drop n 188 (piece ++ file)) ∙ ap (λ (behind : List ℕ). drop n behind) (drop_at piece file 188 size)

count-append : (piece file : List ℕ) → length piece ≡ 188 → length (piece ++ file) / 188 ≡ suc (length file / 188)
count-append piece file size = omega (arith, length-append piece file)

pub packets-append : (piece file : List ℕ) → length piece ≡ 188 → packets (piece ++ file) ≡ packet_of piece ∷ packets file
packets-append piece file size =
    let at : ℕ → Option PacketRecord = λ n. packet_of (slice_chunk (piece ++ file) 188 n) in
    let at_file : ℕ → Option PacketRecord = λ n. packet_of (slice_chunk file 188 n) in
    let first : at 0 ≡ packet_of piece = ap packet_of (take_at piece file 188 size) in
    let next : (n : ℕ) → at (n + 1) ≡ at_file n = λ n.
    let place : (n + 1) * 188 ≡ 188 + n * 188 = omega arith in
    ap (λ (behind : List ℕ). packet_of (take 188 behind)) (ap (λ (k : ℕ). drop k (piece ++ file)) place ∙ drop-behind piece file (n * 188) size) in
    let others : map at (range_with_len 1 (length file / 188)) ≡ packets file = map_shifted at at_file 0 (length file / 188) next in
    ap (λ (n : ℕ). map at (range_with_len 0 n)) (count-append piece file size) ∙ cc

pub packets-short : (file : List ℕ) → length file < 188 → packets file ≡ []
packets-short file short = let none : length file / 188 ≡ 0 = omega arith in rw none refl

pub rest_of-append : (piece file : List ℕ) → length piece ≡ 188 → rest_of (piece ++ file) ≡ rest_of file
rest_of-append piece file size =
    let place : 188 * (length (piece ++ file) / 188) ≡ 188 + 188 * (length file / 188) = omega (arith, count-append piece file size) in
    ap (λ (k : ℕ). drop k (piece ++ file)) place ∙ drop-behind piece file (188 * (length file / 188)) size

pub rest_of-short : (file : List ℕ) → length file < 188 → rest_of file ≡ file
rest_of-short file short = let none : length file / 188 ≡ 0 = omega arith in rw none refl

-- ---- packets that are written one behind another

pub packets-written : (list : List PacketRecord) (rest : List ℕ) → AllByRecursion IsWritable list → length rest < 188 → packets (flat_map written list ++ rest) ≡ map Some list
packets-written [] rest each short = packets-short rest short
packets-written (packet ∷ list) rest each short =
    let is = written-packet packet each.0 in
    let first : packet_of (written packet) ≡ Some packet = packet-found packet (written packet) is in
    let others : packets (flat_map written list ++ rest) ≡ map Some list = packets-written list rest each.1 short in
    ap packets (append_assoc (written packet) (flat_map written list) rest) ∙ packets-append (written packet) (flat_map written list ++ rest) is.size ∙ cc
