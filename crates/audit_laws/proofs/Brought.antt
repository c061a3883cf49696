-- What the packets of an audio stream bring by an audit, which counts what a PES header has left for the next payload as header: no less header than the stream is clean with.
use Rattle.std.proofs.Common.{◌≡◌, inl, inr, ℕ, zero, suc, ◌+◌, ◌-◌, ◌<◌, ◌≤◌, ◌==◌, nat_lt, min, Bool, true, false, cond, ◌&&◌, List, [], ◌∷◌, ◌++◌, All, length, map, filter, take, drop, replicate, count_by, refl, sym, ap, ap₂, subst, ◌∙◌, arith, length-append}
use Rattle.std.specs.List.{AllZip, enumerate_from, sum_by}
use Rattle.std.proofs.lemmas.Bool.{cases_lt, ltb-true, ltb-false}
use Rattle.std.proofs.lemmas.List.{append_assoc}
use Rattle.std.proofs.lemmas.List.Elements.{All-cons, All-head, All-nil, All-tail}
use Rattle.std.proofs.lemmas.List.Sums.{sum_by-cons}
use Rattle.std.proofs.Math.Seq.{drop-append_seam, take-append_seam}
use Rattle.bit_lists.specs.Payload.{CarriedPayload, Payload, is_start}
use Rattle.pes_units.specs.PesHeader.{header_length}
use Rattle.pes_units.specs.PesPackets.{Gathered, gathered, is_dropped}
use Rattle.ts_packets.specs.Packet.{PacketRecord}
use Rattle.ts_packets.specs.Carried.{has_payload_on, payload_of, payloads_on}
use Rattle.slot_rule.specs.declared.queued_packet.QueuedPacket.{QueuedPacket}
use Rattle.tstd_model.specs.declared.decoder_input.Arrival.{Arrival}
use Rattle.tstd_model.specs.declared.decoder_input.PacketPart.{PacketPart}
use Rattle.tstd_model.specs.declared.decoder_input.PacketPart.TheVariants.{PesHeader, Data}
use Rattle.tstd_model.specs.PacketBytes.{is_payload}
use Rattle.ts_demux.specs.declared.demuxed.PesUnit.{PesUnit}
use Rattle.ts_demux.specs.declared.pid_places.Place.{Place}
use Rattle.elementary_streams.specs.Packets.{taken}
use Rattle.elementary_streams.proofs.StreamLemmas.{bytes_in}
use Rattle.stream_audit.specs.PesBytes.{brought_by_all, is_pes_header}
use Rattle.program_reader.specs.declared.program.AudioPiece.{AudioPiece}
use Rattle.clean_laws.specs.Arrivals.{arrivals_of, header_bytes}
use Rattle.clean_laws.specs.Clean.{IsPayloadOf}
use Rattle.pes_walk.proofs.Headers.{header_more, header_some}
use Rattle.audit_laws.specs.Headers.{HaveNoLessHeaders}
use Rattle.audit_laws.proofs.Gathered.{front, front-is, plain_parts}
use Rattle.audit_laws.proofs.Places.{place_by, places_by}

-- ---- PES packets of payloads

-- from each payload in which a PES packet begins up to the next one
abbrev pub cut_at_starts : List Payload → List (List ℕ)
cut_at_starts [] = []
cut_at_starts (payload ∷ more) = cond (is_start payload) ((payload.bytes ++ front more) ∷ cut_at_starts more) (cut_at_starts more)

-- they are those that are gathered
pub gathered-are : (carried : List CarriedPayload) → map (λ (packet : Gathered). packet.bytes) (gathered carried) ≡ cut_at_starts (map (λ (c : CarriedPayload). c.payload) carried)
gathered-are [] = refl
gathered-are (c ∷ cs) = by_test (is_start c.payload) refl (gathered-are cs)
  where
    by_test : (b : Bool) → is_start c.payload ≡ b → map (λ (packet : Gathered). packet.bytes) (gathered cs) ≡ cut_at_starts (map (λ (c : CarriedPayload). c.payload) cs)
        → map (λ (packet : Gathered). packet.bytes) (gathered (c ∷ cs)) ≡ cut_at_starts (map (λ (c : CarriedPayload). c.payload) (c ∷ cs))
    by_test true is rest = rw is (ap₂ (λ (f : List ℕ) (more : List (List ℕ)). (c.payload.bytes ++ f) ∷ more) (front-is cs) rest)
    by_test false is rest = rw is rest

-- none is empty
pub cut-some : (payloads : List Payload) → All (λ (bytes : List ℕ). 0 < length bytes) (cut_at_starts payloads)
cut-some [] = All-nil (λ (bytes : List ℕ). 0 < length bytes)
cut-some (p ∷ ps) = by_test (is_start p) refl (cut-some ps)
  where
    has : (start : Bool) → (start && nat_lt 0 (length p.bytes)) ≡ true → 0 < length p.bytes
    has true is = ltb-true 0 (length p.bytes) is
    has false is = absurd cc

    by_test : (b : Bool) → is_start p ≡ b → All (λ (bytes : List ℕ). 0 < length bytes) (cut_at_starts ps) → All (λ (bytes : List ℕ). 0 < length bytes) (cut_at_starts (p ∷ ps))
    by_test true is rest =
        let some : 0 < length p.bytes = has p.start is in
        rw is (All-cons (λ (bytes : List ℕ). 0 < length bytes) (p.bytes ++ front ps) (cut_at_starts ps) (omega (arith, some, length-append p.bytes (front ps))) rest)
    by_test false is rest = rw is rest

-- the bytes of all payloads are those before the first PES packet, and those of the PES packets
pub cut-bytes : (payloads : List Payload) → sum_by (λ (p : Payload). length p.bytes) payloads ≡ length (front payloads) + sum_by (λ (bytes : List ℕ). length bytes) (cut_at_starts payloads)
cut-bytes [] = omega arith
cut-bytes (p ∷ ps) = by_test (is_start p) refl (cut-bytes ps)
  where
    by_test : (b : Bool) → is_start p ≡ b → sum_by (λ (p : Payload). length p.bytes) ps ≡ length (front ps) + sum_by (λ (bytes : List ℕ). length bytes) (cut_at_starts ps)
        → sum_by (λ (p : Payload). length p.bytes) (p ∷ ps) ≡ length (front (p ∷ ps)) + sum_by (λ (bytes : List ℕ). length bytes) (cut_at_starts (p ∷ ps))
    by_test true is rest =
        let one = sum_by-cons (λ (p : Payload). length p.bytes) p ps in
        let first = sum_by-cons (λ (bytes : List ℕ). length bytes) (p.bytes ++ front ps) (cut_at_starts ps) in
        rw is (omega (arith, one, first, rest, length-append p.bytes (front ps)))
    by_test false is rest =
        let one = sum_by-cons (λ (p : Payload). length p.bytes) p ps in
        rw is (omega (arith, one, rest, length-append p.bytes (front ps)))

-- ---- what is left of a header

-- so many bytes of a PES packet of whose header so many are left
abbrev pub header_left : (left n : ℕ) → List PacketPart
header_left left zero = []
header_left zero (suc n) = Data ∷ header_left zero n
header_left (suc left) (suc n) = PesHeader ∷ header_left left n

left-append : (left m n : ℕ) → header_left left (m + n) ≡ header_left left m ++ header_left (left - m) n
left-append left zero n = ap₂ header_left (let e : left ≡ left - 0 = omega arith in e) (let e : 0 + n ≡ n = omega arith in e)
left-append zero (suc m) n =
    ap (header_left zero) (let e : suc m + n ≡ suc (m + n) = omega arith in e)
    ∙ ap (λ (parts : List PacketPart). Data ∷ parts)
    (left-append zero m n ∙ ap (λ (k : ℕ). header_left zero m ++ header_left k n) (let e : 0 - m ≡ 0 - suc m = omega arith in e))
left-append (suc left) (suc m) n =
    ap (header_left (suc left)) (let e : suc m + n ≡ suc (m + n) = omega arith in e)
    ∙ ap (λ (parts : List PacketPart). PesHeader ∷ parts)
    (left-append left m n ∙ ap (λ (k : ℕ). header_left left m ++ header_left k n) (let e : left - m ≡ suc left - suc m = omega arith in e))

left-many : (left n : ℕ) → length (header_left left n) ≡ n
left-many left zero = refl
left-many zero (suc n) = ap suc (left-many zero n)
left-many (suc left) (suc n) = ap suc (left-many left n)

count-more : (test : PacketPart → Bool) (part : PacketPart) (parts : List PacketPart) → count_by test (part ∷ parts) ≡ cond (test part) 1 0 + count_by test parts
count-more test part parts = sum_by-cons (λ (p : PacketPart). cond (test p) 1 0) part parts

left-headers : (left n : ℕ) → count_by is_pes_header (header_left left n) ≡ min left n
left-headers left zero = omega arith
left-headers zero (suc n) = let rest = left-headers zero n in let one = count-more is_pes_header Data (header_left zero n) in omega (arith, one, rest)
left-headers (suc left) (suc n) = let rest = left-headers left n in let one = count-more is_pes_header PesHeader (header_left left n) in omega (arith, one, rest)

left-payload : (left n : ℕ) → count_by is_payload (header_left left n) ≡ n
left-payload left zero = omega arith
left-payload zero (suc n) = let rest = left-payload zero n in let one = count-more is_payload Data (header_left zero n) in omega (arith, one, rest)
left-payload (suc left) (suc n) = let rest = left-payload left n in let one = count-more is_payload PesHeader (header_left left n) in omega (arith, one, rest)

all-data : (n : ℕ) → replicate n Data ≡ header_left zero n
all-data zero = refl
all-data (suc n) = ap (λ (parts : List PacketPart). Data ∷ parts) (all-data n)

whole-left : (left n : ℕ) → left ≤ n → replicate left PesHeader ++ replicate (n - left) Data ≡ header_left left n
whole-left zero n within = ap (λ (k : ℕ). replicate k Data) (let e : n - 0 ≡ n = omega arith in e) ∙ all-data n
whole-left (suc left) zero within = absurd (omega (arith, within))
whole-left (suc left) (suc n) within =
    ap (λ (parts : List PacketPart). PesHeader ∷ parts)
    (ap (λ (k : ℕ). replicate left PesHeader ++ replicate k Data) (let e : suc n - suc left ≡ n - left = omega arith in e) ∙ whole-left left n (omega (arith, within)))

-- ---- packet by packet

-- the bytes of payloads, with what a header before them has left
abbrev pub flow : (left : ℕ) → List Payload → List PacketPart
flow left payloads = header_left left (length (front payloads)) ++ plain_parts (cut_at_starts payloads)

abbrev pub AreWholeHeaders : List (List ℕ) → Type 0
AreWholeHeaders packets = All (λ (bytes : List ℕ). header_length bytes ≤ length bytes) packets

-- a packet brings its bytes
one-brought : (from left header : ℕ) (packet : PacketRecord) (places : List Place) (parts rest : List PacketPart) (later : List Arrival)
    → parts ≡ header_left left (length packet.payload) ++ rest → header ≤ min left (length packet.payload) → HaveNoLessHeaders (brought_by_all places rest) later
    → HaveNoLessHeaders (brought_by_all (place_by from packet ∷ places) parts) (record { slot_no = from; header = header; payload = length packet.payload } ∷ later)
one-brought from left header packet places parts rest later same less have =
    let n : ℕ = length packet.payload in
    let own : List PacketPart = header_left left (length packet.payload) in
    let here : take (length packet.payload) parts ≡ header_left left (length packet.payload) =
    ap (take (length packet.payload)) same
    ∙ ap (λ (k : ℕ). take k (header_left left (length packet.payload) ++ rest)) (sym (left-many left (length packet.payload))) ∙ take-append_seam (header_left left (length packet.payload)) rest in
    let behind : drop (length packet.payload) parts ≡ rest =
    ap (drop (length packet.payload)) same
    ∙ ap (λ (k : ℕ). drop k (header_left left (length packet.payload) ++ rest)) (sym (left-many left (length packet.payload))) ∙ drop-append_seam (header_left left (length packet.payload)) rest in
    let payload : count_by is_payload (take (length packet.payload) parts) ≡ length packet.payload = ap (count_by is_payload) here ∙ left-payload left (length packet.payload) in
    let headers : count_by is_pes_header (take (length packet.payload) parts) ≡ min left (length packet.payload) = ap (count_by is_pes_header) here ∙ left-headers left (length packet.payload) in (
      record { slot = refl; payload = payload; header = omega (arith, headers, less); within = omega (arith, headers, payload) },
      subst (λ (ps : List PacketPart). HaveNoLessHeaders (brought_by_all places ps) later) (sym behind) have,
    )

-- the header of a PES packet is no shorter than its first payload says
header-told : (bytes more : List ℕ) → min (header_length bytes) (length bytes) ≤ min (header_length (bytes ++ more)) (length bytes)
header-told bytes more = elim (cases_lt (length bytes) 9) [
  | inl short ↦ omega (arith, short, header_some (bytes ++ more))
  | inr long ↦ omega (arith, header_more bytes more long)
]

-- a payload that goes on with a PES packet
going-flow : (left : ℕ) (p : Payload) (ps : List Payload) → is_start p ≡ false → flow left (p ∷ ps) ≡ header_left left (length p.bytes) ++ flow (left - length p.bytes) ps
going-flow left p ps is =
    ap (λ (b : Bool). header_left left (length (cond b [] (p.bytes ++ front ps))) ++ plain_parts (cond b ((p.bytes ++ front ps) ∷ cut_at_starts ps) (cut_at_starts ps))) is
    ∙ ap (λ (k : ℕ). header_left left k ++ plain_parts (cut_at_starts ps)) (length-append p.bytes (front ps))
    ∙ ap (λ (parts : List PacketPart). parts ++ plain_parts (cut_at_starts ps)) (left-append left (length p.bytes) (length (front ps)))
    ∙ append_assoc (header_left left (length p.bytes)) (header_left (left - length p.bytes) (length (front ps))) (plain_parts (cut_at_starts ps))

-- a payload in which one begins
start-flow : (left : ℕ) (p : Payload) (ps : List Payload) → is_start p ≡ true → header_length (p.bytes ++ front ps) ≤ length (p.bytes ++ front ps)
    → flow left (p ∷ ps) ≡ header_left (header_length (p.bytes ++ front ps)) (length p.bytes) ++ flow (header_length (p.bytes ++ front ps) - length p.bytes) ps
start-flow left p ps is whole =
    let h : ℕ = header_length (p.bytes ++ front ps) in
    ap (λ (b : Bool). header_left left (length (cond b [] (p.bytes ++ front ps))) ++ plain_parts (cond b ((p.bytes ++ front ps) ∷ cut_at_starts ps) (cut_at_starts ps))) is
    ∙ ap (λ (parts : List PacketPart). parts ++ plain_parts (cut_at_starts ps))
    (whole-left (header_length (p.bytes ++ front ps)) (length (p.bytes ++ front ps)) whole
    ∙ ap (header_left (header_length (p.bytes ++ front ps))) (length-append p.bytes (front ps))
    ∙ left-append (header_length (p.bytes ++ front ps)) (length p.bytes) (length (front ps)))
    ∙ append_assoc (header_left (header_length (p.bytes ++ front ps)) (length p.bytes)) (header_left (header_length (p.bytes ++ front ps) - length p.bytes) (length (front ps)))
    (plain_parts (cut_at_starts ps))

-- the headers of PES packets from a payload on, and of those behind it
whole-head : (p : Payload) (ps : List Payload) → is_start p ≡ true → AreWholeHeaders (cut_at_starts (p ∷ ps)) → header_length (p.bytes ++ front ps) ≤ length (p.bytes ++ front ps)
whole-head p ps is whole =
    All-head (λ (bytes : List ℕ). header_length bytes ≤ length bytes) (p.bytes ++ front ps) (cut_at_starts ps)
    (subst (λ (b : Bool). AreWholeHeaders (cond b ((p.bytes ++ front ps) ∷ cut_at_starts ps) (cut_at_starts ps))) is whole)

whole-tail : (p : Payload) (ps : List Payload) (b : Bool) → is_start p ≡ b → AreWholeHeaders (cut_at_starts (p ∷ ps)) → AreWholeHeaders (cut_at_starts ps)
whole-tail p ps true is whole =
    All-tail (λ (bytes : List ℕ). header_length bytes ≤ length bytes) (p.bytes ++ front ps) (cut_at_starts ps)
    (subst (λ (b : Bool). AreWholeHeaders (cond b ((p.bytes ++ front ps) ∷ cut_at_starts ps) (cut_at_starts ps))) is whole)
whole-tail p ps false is whole = subst (λ (b : Bool). AreWholeHeaders (cond b ((p.bytes ++ front ps) ∷ cut_at_starts ps) (cut_at_starts ps))) is whole

header-most : (start : Bool) (h n : ℕ) → cond start (min h n) 0 ≤ min h n
header-most true h n = omega arith
header-most false h n = omega arith

no-header : (start some : Bool) (h : ℕ) → (start && some) ≡ false → some ≡ true → cond start h 0 ≡ 0
no-header true true h is has = absurd cc
no-header true false h is has = absurd cc
no-header false some h is has = refl

pub flow-brought : (pid from left : ℕ) (list : List PacketRecord) → AreWholeHeaders (cut_at_starts (payloads_on pid list))
    → HaveNoLessHeaders (brought_by_all (places_by (λ (packet : PacketRecord). packet.pid == pid) from list) (flow left (payloads_on pid list)))
    (arrivals_of (λ packet. packet.pid == pid) (λ packet. header_bytes (payload_of packet)) from list)
flow-brought pid from left [] whole = tt
flow-brought pid from left (packet ∷ more) whole =
    by_tests (packet.pid == pid) (nat_lt 0 (length packet.payload)) refl whole (λ left whole. flow-brought pid (from + 1) left more whole)
  where
    by_start : (b : Bool) → is_start (payload_of packet) ≡ b → nat_lt 0 (length packet.payload) ≡ true → AreWholeHeaders (cut_at_starts (payload_of packet ∷ payloads_on pid more))
        → ((left : ℕ) → AreWholeHeaders (cut_at_starts (payloads_on pid more))
        → HaveNoLessHeaders (brought_by_all (places_by (λ (packet : PacketRecord). packet.pid == pid) (from + 1) more) (flow left (payloads_on pid more)))
        (arrivals_of (λ packet. packet.pid == pid) (λ packet. header_bytes (payload_of packet)) (from + 1) more))
        → HaveNoLessHeaders
        (brought_by_all (place_by from packet ∷ places_by (λ (packet : PacketRecord). packet.pid == pid) (from + 1) more) (flow left (payload_of packet ∷ payloads_on pid more)))
        (record { slot_no = from; header = header_bytes (payload_of packet); payload = length packet.payload }
        ∷ arrivals_of (λ packet. packet.pid == pid) (λ packet. header_bytes (payload_of packet)) (from + 1) more)
    by_start true is has each rest =
        let h : ℕ = header_length (packet.payload ++ front (payloads_on pid more)) in
        let fits = whole-head (payload_of packet) (payloads_on pid more) is each in
        let told = header-told packet.payload (front (payloads_on pid more)) in
        let most = header-most packet.start (header_length packet.payload) (length packet.payload) in
        one-brought from (header_length (packet.payload ++ front (payloads_on pid more))) (header_bytes (payload_of packet)) packet
        (places_by (λ (packet : PacketRecord). packet.pid == pid) (from + 1) more) (flow left (payload_of packet ∷ payloads_on pid more))
        (flow (header_length (packet.payload ++ front (payloads_on pid more)) - length packet.payload) (payloads_on pid more))
        (arrivals_of (λ packet. packet.pid == pid) (λ packet. header_bytes (payload_of packet)) (from + 1) more)
        (start-flow left (payload_of packet) (payloads_on pid more) is fits) (omega (arith, told, most))
        (rest (header_length (packet.payload ++ front (payloads_on pid more)) - length packet.payload) (whole-tail (payload_of packet) (payloads_on pid more) true is each))
    by_start false is has each rest =
        let none = no-header packet.start (nat_lt 0 (length packet.payload)) (min (header_length packet.payload) (length packet.payload)) is has in
        one-brought from left (header_bytes (payload_of packet)) packet
        (places_by (λ (packet : PacketRecord). packet.pid == pid) (from + 1) more) (flow left (payload_of packet ∷ payloads_on pid more))
        (flow (left - length packet.payload) (payloads_on pid more))
        (arrivals_of (λ packet. packet.pid == pid) (λ packet. header_bytes (payload_of packet)) (from + 1) more)
        (going-flow left (payload_of packet) (payloads_on pid more) is) (omega (arith, none))
        (rest (left - length packet.payload) (whole-tail (payload_of packet) (payloads_on pid more) false is each))

    empty : (bytes : List ℕ) → nat_lt 0 (length bytes) ≡ false → length bytes ≡ 0
    empty [] is = refl
    empty (byte ∷ bytes) is = absurd (let low = ltb-false 0 (suc (length bytes)) is in omega (arith, low))

    by_tests : (a b : Bool) → nat_lt 0 (length packet.payload) ≡ b
        → AreWholeHeaders (cut_at_starts (map payload_of (cond (a && b) (packet ∷ filter (has_payload_on pid) more) (filter (has_payload_on pid) more))))
        → ((left : ℕ) → AreWholeHeaders (cut_at_starts (payloads_on pid more))
        → HaveNoLessHeaders (brought_by_all (places_by (λ (packet : PacketRecord). packet.pid == pid) (from + 1) more) (flow left (payloads_on pid more)))
        (arrivals_of (λ packet. packet.pid == pid) (λ packet. header_bytes (payload_of packet)) (from + 1) more))
        → HaveNoLessHeaders
        (brought_by_all
        (cond a (place_by from packet ∷ places_by (λ (packet : PacketRecord). packet.pid == pid) (from + 1) more) (places_by (λ (packet : PacketRecord). packet.pid == pid) (from + 1) more))
        (flow left (map payload_of (cond (a && b) (packet ∷ filter (has_payload_on pid) more) (filter (has_payload_on pid) more)))))
        (cond a (record { slot_no = from; header = header_bytes (payload_of packet); payload = length packet.payload } ∷ []) []
        ++ arrivals_of (λ packet. packet.pid == pid) (λ packet. header_bytes (payload_of packet)) (from + 1) more)
    by_tests false b has each rest = rest left each
    by_tests true false has each rest =
        let none : length packet.payload ≡ 0 = empty packet.payload has in
        let most = header-most packet.start (header_length packet.payload) (length packet.payload) in
        one-brought from left (header_bytes (payload_of packet)) packet
        (places_by (λ (packet : PacketRecord). packet.pid == pid) (from + 1) more) (flow left (payloads_on pid more)) (flow left (payloads_on pid more))
        (arrivals_of (λ packet. packet.pid == pid) (λ packet. header_bytes (payload_of packet)) (from + 1) more)
        (sym (ap (λ (k : ℕ). header_left left k ++ flow left (payloads_on pid more)) none)) (omega (arith, most, none)) (rest left each)
    by_tests true true has each rest = by_start (is_start (payload_of packet)) refl has each rest

-- ---- none is dropped

pub taken-less : (packets : List PesUnit) → bytes_in (taken false packets) ≤ bytes_in packets
taken-less [] = omega arith
taken-less (p ∷ []) = by_test (is_dropped false p.bytes)
  where
    by_test : (dropped : Bool) → bytes_in (cond dropped [] (p ∷ [])) ≤ bytes_in (p ∷ [])
    by_test true = omega arith
    by_test false = omega arith
taken-less (p ∷ q ∷ ps) =
    let rest = taken-less (q ∷ ps) in
    omega (arith, rest, sum_by-cons (λ (u : PesUnit). length u.bytes) p (taken false (q ∷ ps)), sum_by-cons (λ (u : PesUnit). length u.bytes) p (q ∷ ps))

-- where those that are taken have all bytes none is dropped
pub all-taken : (packets : List PesUnit) → All (λ (p : PesUnit). 0 < length p.bytes) packets → bytes_in packets ≤ bytes_in (taken false packets) → taken false packets ≡ packets
all-taken [] some all = refl
all-taken (p ∷ []) some all = by_test (is_dropped false p.bytes) all
  where
    by_test : (dropped : Bool) → bytes_in (p ∷ []) ≤ bytes_in (cond dropped [] (p ∷ [])) → cond dropped [] (p ∷ []) ≡ p ∷ []
    by_test true all = absurd
        (let own : 0 < length p.bytes = All-head (λ (p : PesUnit). 0 < length p.bytes) p [] some in
        let sum = sum_by-cons (λ (u : PesUnit). length u.bytes) p [] in
        omega (arith, own, all, sum))
    by_test false all = refl
all-taken (p ∷ q ∷ ps) some all =
    ap (λ (rest : List PesUnit). p ∷ rest)
    (all-taken (q ∷ ps) (All-tail (λ (p : PesUnit). 0 < length p.bytes) p (q ∷ ps) some)
    (omega (arith, all, sum_by-cons (λ (u : PesUnit). length u.bytes) p (taken false (q ∷ ps)), sum_by-cons (λ (u : PesUnit). length u.bytes) p (q ∷ ps))))

-- ---- queued bytes

-- the bytes of payloads are those of the packets beside them
pub queued-bytes : (headers : QueuedPacket → ℕ) (item : ℕ) (payloads : List Payload) (pieces : List AudioPiece)
    → AllZip (IsPayloadOf headers) payloads
    (map (λ (n, packet). record { item = n; piece = 0; payload = packet.bytes; due = packet.due; gone = packet.gone }) (enumerate_from item (map (λ piece. piece.packet) pieces)))
    → sum_by (λ (p : Payload). length p.bytes) payloads ≡ sum_by (λ (piece : AudioPiece). piece.packet.bytes) pieces
queued-bytes headers item [] [] zip = refl
queued-bytes headers item [] (x ∷ xs) zip = absurd zip
queued-bytes headers item (p ∷ ps) [] zip = absurd zip
queued-bytes headers item (p ∷ ps) (x ∷ xs) zip =
    let rest = queued-bytes headers (item + 1) ps xs zip.1 in
    let size : length p.bytes ≡ x.packet.bytes = zip.0.size in
    omega (arith, rest, size, sum_by-cons (λ (p : Payload). length p.bytes) p ps, sum_by-cons (λ (piece : AudioPiece). piece.packet.bytes) x xs)
