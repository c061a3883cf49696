-- The bytes of the PES packets of a stream are those of its payloads, where each header is within the payload that it begins in.
use Rattle.std.proofs.Common.{◌≡◌, ℕ, zero, suc, ◌+◌, ◌-◌, ◌<◌, ◌≤◌, ◌==◌, nat_le, nat_lt, min, Bool, true, false, cond, if◌then◌else◌, ◌&&◌}
use Rattle.std.proofs.Common.{List, [], ◌∷◌, ◌++◌, All, length, map, replicate, refl, sym, ap, ap₂, subst, ◌∙◌, arith, length-append}
use Rattle.std.specs.List.{flat_map, range_with_len, sum_by}
use Rattle.std.proofs.lemmas.Bool.{le-leb, lt-ltb, ltb-false}
use Rattle.std.proofs.lemmas.List.{append_assoc, length-drop, replicate-append-replicate}
use Rattle.std.proofs.lemmas.List.Elements.{All-cons, All-head, All-nil, All-tail}
use Rattle.std.proofs.lemmas.List.Sums.{sum_by-cons}
use Rattle.bit_lists.specs.Payload.{CarriedPayload, Payload, is_start}
use Rattle.pes_units.specs.PesHeader.{header_length}
use Rattle.pes_units.specs.PesPackets.{Gathered, gathered, up_to_start}
use Rattle.ts_packets.specs.Packet.{PacketRecord}
use Rattle.ts_packets.specs.Carried.{payloads_on}
use Rattle.tstd_model.specs.declared.decoder_input.PacketPart.{PacketPart}
use Rattle.tstd_model.specs.declared.decoder_input.PacketPart.TheVariants.{PesHeader, Data}
use Rattle.ts_demux.specs.declared.demuxed.PesUnit.{PesUnit}
use Rattle.elementary_streams.specs.Packets.{pes_payload_of as pes_payload}
use Rattle.stream_audit.specs.PesBytes.{bytes_before, part_at, parts_of_packets}
use Rattle.clean_laws.specs.Arrivals.{header_bytes}
use Rattle.pes_walk.proofs.Headers.{header_more}
use Rattle.audit_laws.proofs.Arrivals.{parts_of_payload}
use Rattle.audit_laws.proofs.Places.{places_by}

-- ---- PES packets

-- their bytes, all elementary ones being kept
abbrev pub plain_parts : List (List ℕ) → List PacketPart
plain_parts packets = flat_map (λ (bytes : List ℕ). replicate (header_length bytes) PesHeader ++ replicate (length bytes - header_length bytes) Data) packets

data-at : (to at n : ℕ) → at + n ≤ to → map (part_at (record { from = 0; to = to })) (range_with_len at n) ≡ replicate n Data
data-at to at zero within = refl
data-at to at (suc n) within =
    let low : nat_le 0 at ≡ true = le-leb 0 at (omega arith) in
    let high : nat_lt at to ≡ true = lt-ltb at to (omega (arith, within)) in
    ap₂ (λ (part : PacketPart) (parts : List PacketPart). part ∷ parts) (rw (low, high) refl) (data-at to (at + 1) n (omega (arith, within)))

-- where all elementary bytes are kept the bytes are these
pub whole-parts : (to at : ℕ) (packets : List PesUnit) → at + sum_by (λ (packet : PesUnit). length (pes_payload packet)) packets ≤ to
    → parts_of_packets (record { from = 0; to = to }) at packets ≡ plain_parts (map (λ (packet : PesUnit). packet.bytes) packets)
whole-parts to at [] within = refl
whole-parts to at (packet ∷ more) within =
    let size : length (pes_payload packet) ≡ length packet.bytes - header_length packet.bytes = length-drop (header_length packet.bytes) packet.bytes in
    let all : sum_by (λ (packet : PesUnit). length (pes_payload packet)) (packet ∷ more) ≡ length (pes_payload packet) + sum_by (λ (packet : PesUnit). length (pes_payload packet)) more =
    sum_by-cons (λ (packet : PesUnit). length (pes_payload packet)) packet more in
    ap₂ (λ (xs ys : List PacketPart). (replicate (header_length packet.bytes) PesHeader ++ xs) ++ ys)
    (data-at to at (length (pes_payload packet)) (omega (arith, within, all)) ∙ ap (λ (n : ℕ). replicate n Data) size)
    (whole-parts to (at + length (pes_payload packet)) more (omega (arith, within, all)))

-- ---- payloads, and what is gathered of them

-- a payload's header is within it, with a byte behind it
abbrev pub LeavesData : CarriedPayload → Type 0
LeavesData carried = header_bytes carried.payload < length carried.payload.bytes

-- bytes that go on
going : (start : Bool) (bytes : List ℕ) → (start && nat_lt 0 (length bytes)) ≡ false → parts_of_payload (record { start = start; bytes = bytes }) ≡ replicate (length bytes) Data
going false bytes is = ap (λ (n : ℕ). replicate n Data) (let e : length bytes - 0 ≡ length bytes = omega arith in e)
going true [] is = ap (λ (h : ℕ). replicate h PesHeader ++ replicate (0 - h) Data) (let e : min (header_length []) 0 ≡ 0 = omega arith in e)
going true (byte ∷ bytes) is = absurd (let low = ltb-false 0 (suc (length bytes)) is in omega (arith, low))

-- a payload in which a PES packet begins, and the bytes that go on behind it
begun : (bytes more : List ℕ) → header_bytes (record { start = true; bytes = bytes }) < length bytes
    → parts_of_payload (record { start = true; bytes = bytes }) ++ replicate (length more) Data
    ≡ replicate (header_length (bytes ++ more)) PesHeader ++ replicate (length (bytes ++ more) - header_length (bytes ++ more)) Data
begun bytes more fits =
    let told : min (header_length bytes) (length bytes) ≡ header_length bytes = omega (arith, fits) in
    let same : header_length (bytes ++ more) ≡ header_length bytes = header_more bytes more (omega (arith, fits, told)) in
    let size : length (bytes ++ more) ≡ length bytes + length more = length-append bytes more in
    append_assoc (replicate (min (header_length bytes) (length bytes)) PesHeader) (replicate (length bytes - min (header_length bytes) (length bytes)) Data) (replicate (length more) Data)
    ∙ ap₂ (λ (h : ℕ) (ds : List PacketPart). replicate h PesHeader ++ ds) (told ∙ sym same)
    (replicate-append-replicate (length bytes - min (header_length bytes) (length bytes)) (length more) Data
    ∙ ap (λ (n : ℕ). replicate n Data)
    (let e : length bytes - min (header_length bytes) (length bytes) + length more ≡ length (bytes ++ more) - header_length (bytes ++ more) = omega (arith, fits, told, same, size) in e))

abbrev bytes_of : List Gathered → List (List ℕ)
bytes_of packets = map (λ (packet : Gathered). packet.bytes) packets

-- the bytes of payloads: those before the first PES packet, and those of the PES packets
pub parts-gathered : (carried : List CarriedPayload) → All LeavesData carried
    → flat_map (λ (c : CarriedPayload). parts_of_payload c.payload) carried ≡ replicate (length (up_to_start carried)) Data ++ plain_parts (bytes_of (gathered carried))
parts-gathered [] all = refl
parts-gathered (first ∷ more) all = by_test (is_start first.payload) refl (parts-gathered more (All-tail LeavesData first more all))
  where
    fits : header_bytes first.payload < length first.payload.bytes
    fits = All-head LeavesData first more all

    starts : (start : Bool) (own : List ℕ) → (start && nat_lt 0 (length own)) ≡ true → start ≡ true
    starts true own is = refl
    starts false own is = absurd cc

    by_test : (b : Bool) → is_start first.payload ≡ b
        → (flat_map (λ (c : CarriedPayload). parts_of_payload c.payload) more ≡ replicate (length (up_to_start more)) Data ++ plain_parts (bytes_of (gathered more)))
        → parts_of_payload first.payload ++ flat_map (λ (c : CarriedPayload). parts_of_payload c.payload) more
        ≡ replicate (length (up_to_start (first ∷ more))) Data ++ plain_parts (bytes_of (gathered (first ∷ more)))
    by_test true is rest =
        let start : first.payload.start ≡ true = starts first.payload.start first.payload.bytes is in
        let own : parts_of_payload first.payload ≡ parts_of_payload (record { start = true; bytes = first.payload.bytes }) =
        ap (λ (s : Bool). parts_of_payload (record { start = s; bytes = first.payload.bytes })) start in
        let low : header_bytes (record { start = true; bytes = first.payload.bytes }) < length first.payload.bytes =
        subst (λ (s : Bool). header_bytes (record { start = s; bytes = first.payload.bytes }) < length first.payload.bytes) start fits in
        let here : parts_of_payload first.payload ++ (replicate (length (up_to_start more)) Data ++ plain_parts (bytes_of (gathered more)))
        ≡ plain_parts ((first.payload.bytes ++ up_to_start more) ∷ bytes_of (gathered more)) =
        sym (append_assoc (parts_of_payload first.payload) (replicate (length (up_to_start more)) Data) (plain_parts (bytes_of (gathered more))))
        ∙ ap (λ (xs : List PacketPart). (xs ++ replicate (length (up_to_start more)) Data) ++ plain_parts (bytes_of (gathered more))) own
        ∙ ap (λ (xs : List PacketPart). xs ++ plain_parts (bytes_of (gathered more))) (begun first.payload.bytes (up_to_start more) low) in
        ap (λ (xs : List PacketPart). parts_of_payload first.payload ++ xs) rest ∙ here ∙ sym (rw is refl)
    by_test false is rest =
        let own : parts_of_payload first.payload ≡ replicate (length first.payload.bytes) Data = going first.payload.start first.payload.bytes is in
        let size : length (first.payload.bytes ++ up_to_start more) ≡ length first.payload.bytes + length (up_to_start more) = length-append first.payload.bytes (up_to_start more) in
        let here : replicate (length first.payload.bytes) Data ++ (replicate (length (up_to_start more)) Data ++ plain_parts (bytes_of (gathered more)))
        ≡ replicate (length (first.payload.bytes ++ up_to_start more)) Data ++ plain_parts (bytes_of (gathered more)) =
        sym (append_assoc (replicate (length first.payload.bytes) Data) (replicate (length (up_to_start more)) Data) (plain_parts (bytes_of (gathered more))))
        ∙ ap (λ (xs : List PacketPart). xs ++ plain_parts (bytes_of (gathered more)))
        (replicate-append-replicate (length first.payload.bytes) (length (up_to_start more)) Data ∙ ap (λ (n : ℕ). replicate n Data) (sym size)) in
        ap₂ (λ (xs ys : List PacketPart). xs ++ ys) own rest ∙ here ∙ sym (rw is refl)

-- a header is within its PES packet, with a byte behind it
pub fits-gathered : (carried : List CarriedPayload) → All LeavesData carried → All (λ (bytes : List ℕ). header_length bytes < length bytes) (bytes_of (gathered carried))
fits-gathered [] all = All-nil (λ (bytes : List ℕ). header_length bytes < length bytes)
fits-gathered (first ∷ more) all = by_test (is_start first.payload) refl (fits-gathered more (All-tail LeavesData first more all))
  where
    starts : (start : Bool) (own : List ℕ) → (start && nat_lt 0 (length own)) ≡ true → start ≡ true
    starts true own is = refl
    starts false own is = absurd cc

    low : first.payload.start ≡ true → min (header_length first.payload.bytes) (length first.payload.bytes) < length first.payload.bytes
    low start = subst (λ (s : Bool). cond s (min (header_length first.payload.bytes) (length first.payload.bytes)) 0 < length first.payload.bytes) start (All-head LeavesData first more all)

    by_test : (b : Bool) → is_start first.payload ≡ b → All (λ (bytes : List ℕ). header_length bytes < length bytes) (bytes_of (gathered more))
        → All (λ (bytes : List ℕ). header_length bytes < length bytes) (bytes_of (gathered (first ∷ more)))
    by_test true is rest =
        let fits = low (starts first.payload.start first.payload.bytes is) in
        let same : header_length (first.payload.bytes ++ up_to_start more) ≡ header_length first.payload.bytes = header_more first.payload.bytes (up_to_start more) (omega (arith, fits)) in
        let size : length (first.payload.bytes ++ up_to_start more) ≡ length first.payload.bytes + length (up_to_start more) = length-append first.payload.bytes (up_to_start more) in
        rw is
        (All-cons (λ (bytes : List ℕ). header_length bytes < length bytes) (first.payload.bytes ++ up_to_start more) (bytes_of (gathered more)) (omega (arith, fits, same, size)) rest)
    by_test false is rest = rw is rest

-- what holds of each item of a list that is made of another
pub of-map : {A B : Type 0} (P : B → Type 0) (f : A → B) (xs : List A) (ys : List B) → map f xs ≡ ys → All P ys → All (λ x. P (f x)) xs
of-map P f xs ys same all = from xs (subst (All P) (sym same) all)
  where
    from : (xs : List _) → All P (map f xs) → All (λ x. P (f x)) xs
    from [] all = All-nil (λ x. P (f x))
    from (x ∷ xs) all = All-cons (λ x. P (f x)) x xs (All-head P (f x) (map f xs) all) (from xs (All-tail P (f x) (map f xs) all))

-- ---- what comes before the first PES packet

-- the bytes of payloads before the first in which a PES packet begins
abbrev pub front : List Payload → List ℕ
front [] = []
front (payload ∷ more) = if is_start payload then [] else payload.bytes ++ front more

pub front-is : (carried : List CarriedPayload) → up_to_start carried ≡ front (map (λ (c : CarriedPayload). c.payload) carried)
front-is [] = refl
front-is (c ∷ cs) = ap (λ (rest : List ℕ). cond (is_start c.payload) [] (c.payload.bytes ++ rest)) (front-is cs)

pub before-is : (pid from : ℕ) (list : List PacketRecord) → bytes_before (places_by (λ (packet : PacketRecord). packet.pid == pid) from list) ≡ length (front (payloads_on pid list))
before-is pid from [] = refl
before-is pid from (packet ∷ more) = by_tests (packet.pid == pid) packet.start (nat_lt 0 (length packet.payload)) refl refl refl (before-is pid (from + 1) more)
  where
    none : (bytes : List ℕ) → nat_lt 0 (length bytes) ≡ false → length bytes ≡ 0
    none [] is = refl
    none (byte ∷ bytes) is = absurd (let low = ltb-false 0 (suc (length bytes)) is in omega (arith, low))

    no-more : 0 + length (front (payloads_on pid more)) ≡ length (front (payloads_on pid more))
    no-more = omega arith

    by_tests : (a start some : Bool) → (packet.pid == pid) ≡ a → packet.start ≡ start → nat_lt 0 (length packet.payload) ≡ some
        → (bytes_before (places_by (λ (packet : PacketRecord). packet.pid == pid) (from + 1) more) ≡ length (front (payloads_on pid more)))
        → bytes_before (places_by (λ (packet : PacketRecord). packet.pid == pid) from (packet ∷ more)) ≡ length (front (payloads_on pid (packet ∷ more)))
    by_tests true true true is starts has rest =
        rw (is, starts, has) (ap (λ (b : Bool). length (cond b [] (packet.payload ++ front (payloads_on pid more)))) (sym has))
    by_tests true false true is starts has rest =
        rw (is, starts, has) (ap (λ (n : ℕ). length packet.payload + n) rest ∙ sym (length-append packet.payload (front (payloads_on pid more))))
    by_tests true true false is starts has rest = rw (is, starts, has) (ap₂ (λ (x y : ℕ). x + y) (none packet.payload has) rest ∙ no-more)
    by_tests true false false is starts has rest = rw (is, starts, has) (ap₂ (λ (x y : ℕ). x + y) (none packet.payload has) rest ∙ no-more)
    by_tests false start some is starts has rest = rw is rest
