-- What the packets of a stream bring to a decoder, by an audit and by the records of the packets: the same.
use Rattle.std.proofs.Common.{◌≡◌, ℕ, suc, ◌+◌, ◌-◌, ◌≤◌, ◌==◌, ◌&&◌, ◌*◌, nat_lt, min, Bool, true, false, cond, List}
use Rattle.std.proofs.Common.{[], ◌∷◌, ◌++◌, count_by, length, map, filter, take, drop, replicate, refl, sym, ap, ap₂, ◌∙◌, arith, length-append}
use Rattle.std.specs.List.{flat_map}
use Rattle.std.proofs.lemmas.Bool.{ltb-false}
use Rattle.std.proofs.lemmas.List.{append_assoc, length-replicate}
use Rattle.std.proofs.lemmas.List.Sums.{sum_by-append}
use Rattle.std.proofs.lemmas.List.Folds.{sum_by-replicate}
use Rattle.std.proofs.Math.Seq.{drop-append_seam, take-append_seam}
use Rattle.bit_lists.specs.Payload.{Payload}
use Rattle.pes_units.specs.PesHeader.{header_length}
use Rattle.ts_packets.specs.Packet.{PacketRecord}
use Rattle.ts_packets.specs.Carried.{has_payload_on, payload_of, payloads_on}
use Rattle.tstd_model.specs.declared.decoder_input.Arrival.{Arrival}
use Rattle.tstd_model.specs.declared.decoder_input.PacketPart.{PacketPart}
use Rattle.tstd_model.specs.declared.decoder_input.PacketPart.TheVariants.{PesHeader, Data}
use Rattle.tstd_model.specs.PacketBytes.{is_payload}
use Rattle.stream_audit.specs.PesBytes.{brought_by_all, is_pes_header}
use Rattle.stream_audit.specs.Streams.{section_arrival}
use Rattle.clean_laws.specs.Arrivals.{arrivals_of, header_bytes}
use Rattle.audit_laws.proofs.Places.{place_by, places_by}

-- ---- sections

-- section packets bring all their payload
pub sections-are : (test : PacketRecord → Bool) (from : ℕ) (list : List PacketRecord) → map section_arrival (places_by test from list) ≡ arrivals_of test (λ packet. 0) from list
sections-are test from [] = refl
sections-are test from (packet ∷ more) = by_test (test packet) (sections-are test (from + 1) more)
  where
    by_test : (b : Bool) → map section_arrival (places_by test (from + 1) more) ≡ arrivals_of test (λ packet. 0) (from + 1) more
        → map section_arrival (cond b (place_by from packet ∷ places_by test (from + 1) more) (places_by test (from + 1) more))
        ≡ cond b (record { slot_no = from; header = 0; payload = length packet.payload } ∷ []) [] ++ arrivals_of test (λ packet. 0) (from + 1) more
    by_test true rest = ap (λ (arrivals : List Arrival). record { slot_no = from; header = 0; payload = length packet.payload } ∷ arrivals) rest
    by_test false rest = rest

-- ---- bytes of payloads

-- the bytes of a payload: those of a PES header that begins it, and then the elementary ones
abbrev pub parts_of_payload : Payload → List PacketPart
parts_of_payload payload = replicate (header_bytes payload) PesHeader ++ replicate (length payload.bytes - header_bytes payload) Data

count-header : (h d : ℕ) → count_by is_pes_header (replicate h PesHeader ++ replicate d Data) ≡ h
count-header h d =
    sum_by-append (λ (p : PacketPart). cond (is_pes_header p) 1 0) (replicate h PesHeader) (replicate d Data)
    ∙ ap₂ (λ (x y : ℕ). x + y) (sum_by-replicate (λ (p : PacketPart). cond (is_pes_header p) 1 0) h PesHeader) (sum_by-replicate (λ (p : PacketPart). cond (is_pes_header p) 1 0) d Data)
    ∙ (let e : h * 1 + d * 0 ≡ h = omega arith in e)

count-payload : (h d : ℕ) → count_by is_payload (replicate h PesHeader ++ replicate d Data) ≡ h + d
count-payload h d =
    sum_by-append (λ (p : PacketPart). cond (is_payload p) 1 0) (replicate h PesHeader) (replicate d Data)
    ∙ ap₂ (λ (x y : ℕ). x + y) (sum_by-replicate (λ (p : PacketPart). cond (is_payload p) 1 0) h PesHeader) (sum_by-replicate (λ (p : PacketPart). cond (is_payload p) 1 0) d Data)
    ∙ (let e : h * 1 + d * 1 ≡ h + d = omega arith in e)

header-bound : (start : Bool) (h l : ℕ) → cond start (min h l) 0 ≤ l
header-bound true h l = omega arith
header-bound false h l = omega arith

pub header-within : (payload : Payload) → header_bytes payload ≤ length payload.bytes
header-within payload = header-bound payload.start (header_length payload.bytes) (length payload.bytes)

pub parts-many : (payload : Payload) → length (parts_of_payload payload) ≡ length payload.bytes
parts-many payload =
    let h : ℕ = header_bytes payload in
    let d : ℕ = length payload.bytes - header_bytes payload in
    length-append (replicate (header_bytes payload) PesHeader) (replicate (length payload.bytes - header_bytes payload) Data)
    ∙ ap₂ (λ (x y : ℕ). x + y) (length-replicate (header_bytes payload) PesHeader) (length-replicate (length payload.bytes - header_bytes payload) Data)
    ∙ (let e : header_bytes payload + (length payload.bytes - header_bytes payload) ≡ length payload.bytes = omega (arith, header-within payload) in e)

-- ---- a stream's PID

-- the bytes of some packets
abbrev pub parts_of_packets : List PacketRecord → List PacketPart
parts_of_packets list = flat_map (λ (packet : PacketRecord). parts_of_payload (payload_of packet)) list

-- packets that bring the bytes of their own payloads
pub arrivals-are : (test : PacketRecord → Bool) (from : ℕ) (list : List PacketRecord) (rest : List PacketPart)
    → brought_by_all (places_by test from list) (parts_of_packets (filter test list) ++ rest) ≡ arrivals_of test (λ packet. header_bytes (payload_of packet)) from list
arrivals-are test from [] rest = refl
arrivals-are test from (packet ∷ more) rest = by_test (test packet) (arrivals-are test (from + 1) more rest)
  where
    own : List PacketPart
    own = parts_of_payload (payload_of packet)

    tail : List PacketPart
    tail = parts_of_packets (filter test more) ++ rest

    split : (own ++ parts_of_packets (filter test more)) ++ rest ≡ own ++ tail
    split = append_assoc own (parts_of_packets (filter test more)) rest

    here : take (length packet.payload) (own ++ tail) ≡ own
    here = ap (λ (n : ℕ). take n (own ++ tail)) (sym (parts-many (payload_of packet))) ∙ take-append_seam own tail

    behind : drop (length packet.payload) (own ++ tail) ≡ tail
    behind = ap (λ (n : ℕ). drop n (own ++ tail)) (sym (parts-many (payload_of packet))) ∙ drop-append_seam own tail

    header : count_by is_pes_header own ≡ header_bytes (payload_of packet)
    header = count-header (header_bytes (payload_of packet)) (length packet.payload - header_bytes (payload_of packet))

    size : count_by is_payload own ≡ length packet.payload
    size = count-payload (header_bytes (payload_of packet)) (length packet.payload - header_bytes (payload_of packet))
        ∙ (let e : header_bytes (payload_of packet) + (length packet.payload - header_bytes (payload_of packet)) ≡ length packet.payload = omega (arith, header-within (payload_of packet)) in e)

    by_test : (b : Bool)
        → brought_by_all (places_by test (from + 1) more) (parts_of_packets (filter test more) ++ rest) ≡ arrivals_of test (λ packet. header_bytes (payload_of packet)) (from + 1) more
        → brought_by_all (cond b (place_by from packet ∷ places_by test (from + 1) more) (places_by test (from + 1) more))
        (parts_of_packets (cond b (packet ∷ filter test more) (filter test more)) ++ rest)
        ≡ cond b (record { slot_no = from; header = header_bytes (payload_of packet); payload = length packet.payload } ∷ []) []
        ++ arrivals_of test (λ packet. header_bytes (payload_of packet)) (from + 1) more
    by_test true later =
        ap (λ (parts : List PacketPart). brought_by_all (place_by from packet ∷ places_by test (from + 1) more) parts) split
        ∙ ap₂ (λ (xs : List PacketPart) (more_arrivals : List Arrival). record { slot_no = from; header = count_by is_pes_header xs; payload = count_by is_payload xs } ∷ more_arrivals) here
        (ap (brought_by_all (places_by test (from + 1) more)) behind ∙ later)
        ∙ ap₂ (λ (h p : ℕ). record { slot_no = from; header = h; payload = p } ∷ arrivals_of test (λ packet. header_bytes (payload_of packet)) (from + 1) more) header size
    by_test false later = later

-- packets without payload have none of these bytes
pub payload-parts : (pid : ℕ) (list : List PacketRecord)
    → parts_of_packets (filter (λ (packet : PacketRecord). packet.pid == pid) list) ≡ flat_map parts_of_payload (payloads_on pid list)
payload-parts pid [] = refl
payload-parts pid (packet ∷ more) = by_tests (packet.pid == pid) (nat_lt 0 (length packet.payload)) refl (payload-parts pid more)
  where
    nothing : nat_lt 0 (length packet.payload) ≡ false → parts_of_payload (payload_of packet) ≡ []
    nothing none = no-parts (parts_of_payload (payload_of packet)) (parts-many (payload_of packet) ∙ empty packet.payload none)
      where
        empty : (bytes : List ℕ) → nat_lt 0 (length bytes) ≡ false → length bytes ≡ 0
        empty [] is = refl
        empty (byte ∷ bytes) is = absurd (let low = ltb-false 0 (suc (length bytes)) is in omega (arith, low))

        no-parts : (parts : List PacketPart) → length parts ≡ 0 → parts ≡ []
        no-parts [] is = refl
        no-parts (part ∷ parts) is = absurd (omega (arith, is))

    by_tests : (a b : Bool) → nat_lt 0 (length packet.payload) ≡ b
        → parts_of_packets (filter (λ (packet : PacketRecord). packet.pid == pid) more) ≡ flat_map parts_of_payload (payloads_on pid more)
        → parts_of_packets (cond a (packet ∷ filter (λ (packet : PacketRecord). packet.pid == pid) more) (filter (λ (packet : PacketRecord). packet.pid == pid) more))
        ≡ flat_map parts_of_payload (map payload_of (cond (a && b) (packet ∷ filter (has_payload_on pid) more) (filter (has_payload_on pid) more)))
    by_tests true true is rest = ap (λ (parts : List PacketPart). parts_of_payload (payload_of packet) ++ parts) rest
    by_tests true false is rest = ap (λ (parts : List PacketPart). parts ++ parts_of_packets (filter (λ (packet : PacketRecord). packet.pid == pid) more)) (nothing is) ∙ rest
    by_tests false b is rest = rest
