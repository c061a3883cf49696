-- What the packets of a PID bring to a decoder.
use Rattle.std.proofs.Common.{◌≡◌, ℕ, ◌+◌, ◌<◌, ◌≤◌, cond, List, [], ◌∷◌, ◌++◌, All, count_by, drop, take, get_or, length, map, refl, sym, ap, ◌∙◌, arith}
use Rattle.std.proofs.lemmas.List.{append-nil, append_assoc, at_drop_all, at_drop_more, length-take}
use Rattle.std.proofs.lemmas.List.Elements.{All-cons, All-tail}
use Rattle.std.proofs.lemmas.List.Sums.{count_by-le-length, sum_by-cons}
use Rattle.stream_constants.specs.declared.packets.TheConstants.{PACKET_BYTES}
use Rattle.tstd_model.specs.declared.decoder_input.Arrival.{Arrival}
use Rattle.tstd_model.specs.declared.decoder_input.PacketPart.{PacketPart}
use Rattle.tstd_model.specs.declared.decoder_input.PacketPart.TheVariants.{Overhead, PesHeader, Data}
use Rattle.tstd_model.specs.PacketBytes.{HasHeaderWithin, is_payload}
use Rattle.ts_demux.specs.declared.pid_places.Place.{Place}
use Rattle.stream_audit.specs.PesBytes.{brought_by, brought_by_all, is_pes_header}

-- ---- packet by packet

pub arrivals-next : (places : List Place) (parts : List PacketPart) (k : ℕ) (d : Place) → k < length places →
    brought_by_all (drop k places) parts
    ≡ brought_by (get_or places k d) (take (get_or places k d).payload parts) ∷ brought_by_all (drop (k + 1) places) (drop (get_or places k d).payload parts)
arrivals-next places parts k d within = at_drop_more (λ (ps : List Place). brought_by_all ps parts) places k d within

pub arrivals-end : (places : List Place) (parts : List PacketPart) (k : ℕ) → length places ≤ k → brought_by_all (drop k places) parts ≡ []
arrivals-end places parts k behind = at_drop_all (λ (ps : List Place). brought_by_all ps parts) places k behind

-- all are found
pub all-found : (found : List Arrival) (places : List Place) (was now : List PacketPart) (k : ℕ) → length places ≤ k →
    brought_by_all places was ≡ found ++ brought_by_all (drop k places) now → found ≡ brought_by_all places was
all-found found places was now k behind is = sym (is ∙ ap (λ (more : List Arrival). found ++ more) (arrivals-end places now k behind) ∙ append-nil found)

-- one more is found
pub found-more : (found : List Arrival) (arrival : Arrival) (places : List Place) (was now : List PacketPart) (place : Place) → arrival ≡ brought_by place (take place.payload was) →
    now ≡ drop place.payload was → found ++ brought_by place (take place.payload was) ∷ brought_by_all places (drop place.payload was) ≡ (found ++ arrival ∷ []) ++ brought_by_all places now
found-more found arrival places was now place arrival_is now_is =
    ap (λ (a : Arrival). found ++ a ∷ brought_by_all places (drop place.payload was)) (sym arrival_is)
    ∙ ap (λ (ps : List PacketPart). found ++ arrival ∷ brought_by_all places ps) (sym now_is)
    ∙ sym (append_assoc found (arrival ∷ []) (brought_by_all places now))

-- ---- what the judge asks of them

pub slots-in : (places : List Place) (parts : List PacketPart) → map (λ (a : Arrival). a.slot_no) (brought_by_all places parts) ≡ map (λ (p : Place). p.packet) places
slots-in [] parts = refl
slots-in (place ∷ places) parts = ap (λ (ns : List ℕ). place.packet ∷ ns) (slots-in places (drop place.payload parts))

-- headers are payload
headers_fewer : (parts : List PacketPart) → count_by is_pes_header parts ≤ count_by is_payload parts
headers_fewer [] = omega arith
headers_fewer (Overhead ∷ parts) =
    let header : count_by is_pes_header (Overhead ∷ parts) ≡ 0 + count_by is_pes_header parts = sum_by-cons (λ (x : PacketPart). cond (is_pes_header x) 1 0) Overhead parts in
    let payload : count_by is_payload (Overhead ∷ parts) ≡ 0 + count_by is_payload parts = sum_by-cons (λ (x : PacketPart). cond (is_payload x) 1 0) Overhead parts in
    omega (arith, headers_fewer parts, header, payload)
headers_fewer (PesHeader ∷ parts) =
    let header : count_by is_pes_header (PesHeader ∷ parts) ≡ 1 + count_by is_pes_header parts = sum_by-cons (λ (x : PacketPart). cond (is_pes_header x) 1 0) PesHeader parts in
    let payload : count_by is_payload (PesHeader ∷ parts) ≡ 1 + count_by is_payload parts = sum_by-cons (λ (x : PacketPart). cond (is_payload x) 1 0) PesHeader parts in
    omega (arith, headers_fewer parts, header, payload)
headers_fewer (Data ∷ parts) =
    let header : count_by is_pes_header (Data ∷ parts) ≡ 0 + count_by is_pes_header parts = sum_by-cons (λ (x : PacketPart). cond (is_pes_header x) 1 0) Data parts in
    let payload : count_by is_payload (Data ∷ parts) ≡ 1 + count_by is_payload parts = sum_by-cons (λ (x : PacketPart). cond (is_payload x) 1 0) Data parts in
    omega (arith, headers_fewer parts, header, payload)

pub within-one : (place : Place) (parts : List PacketPart) → place.payload ≤ PACKET_BYTES → HasHeaderWithin (brought_by place (take place.payload parts))
within-one place parts le = (
  headers_fewer (take place.payload parts),
  omega (arith, le, count_by-le-length is_payload (take place.payload parts), length-take place.payload parts),
)

pub headers-in : (places : List Place) (parts : List PacketPart) → All (λ (place : Place). place.payload ≤ PACKET_BYTES) places → All HasHeaderWithin (brought_by_all places parts)
headers-in [] parts most = λ k d within. absurd (omega (arith, within))
headers-in (place ∷ places) parts most =
    All-cons HasHeaderWithin (brought_by place (take place.payload parts)) (brought_by_all places (drop place.payload parts)) (within-one place parts (most 0 place (omega arith)))
    (headers-in places (drop place.payload parts) (All-tail (λ (p : Place). p.payload ≤ PACKET_BYTES) place places most))
