-- What is written is header, field and payload side by side.
use Rattle.std.proofs.Common.{
  ◌≡◌,
  ℕ,
  zero,
  suc,
  ◌+◌,
  ◌-◌,
  ◌≤◌,
  List,
  [],
  ◌++◌,
  Bool,
  Option,
  Some,
  None,
  is_some,
  if◌then◌else◌,
  replicate,
  length,
  take,
  drop,
  refl,
  ap,
  ◌∙◌,
  length-append,
  length-take,
  length-drop,
  arith,
}
use Rattle.std.proofs.lemmas.List.{drop_all, drop-drop, append-nil, length-replicate}
use Rattle.std.proofs.lemmas.Slice.{take-put_mid}
use borrow.Rule.Slice.PartMut.{put_mid}
use Rattle.ts_packets.specs.declared.adaptation_field.AdaptationField.{AdaptationField}
use Rattle.ts_packets.specs.AdaptationField.{least_length, written_pcr, written_field_bytes, written_field}
use Rattle.ts_packets.specs.Packet.{PacketRecord, written, written_packet_header}

-- a tail behind a front that stays
put_tail : (at k : ℕ) (into front tail : List ℕ) → take at into ≡ front → length into ≤ at + k → put_mid at k into tail ≡ front ++ tail
put_tail at k into front tail kept fits =
    let nothing : drop k (drop at into) ≡ [] = drop-drop k at into ∙ drop_all (at + k) into fits in
    rw (kept, nothing, append-nil tail) refl

-- there is room for the PCR
pcr_fits : (pcr : Option ℕ) (discontinuity : Bool) (n : ℕ) → (if is_some pcr then 7 else if discontinuity then 1 else 0) ≤ suc n → length (written_pcr pcr) ≤ n
pcr_fits None discontinuity n room = omega arith
pcr_fits (Some ticks) discontinuity n room = omega arith

-- a field has the length that it is written at
pub length-written_field_bytes : (field : AdaptationField) (n : ℕ) → least_length field ≤ n → length (written_field_bytes field n) ≡ n
length-written_field_bytes field zero room = refl
length-written_field_bytes field (suc n) room =
    let fits : length (written_pcr field.pcr) ≤ n = pcr_fits field.pcr field.discontinuity n room in
    omega (arith, length-append (written_pcr field.pcr) (replicate (n - length (written_pcr field.pcr)) 0xFF), length-replicate {A = ℕ} (n - length (written_pcr field.pcr)) 0xFF)

length-written_field : (field : AdaptationField) (n : ℕ) → least_length field ≤ n → length (written_field (Some field) n) ≡ n + 1
length-written_field field n room = omega (arith, length-written_field_bytes field n room)

-- payload behind a header
pub written-alone : (packet : PacketRecord) (old into tail : List ℕ) → packet.field ≡ None → length packet.payload ≡ 184 → length old ≡ 188
    → into ≡ written_packet_header packet ++ drop 4 old → tail ≡ packet.payload →
    put_mid (188 - length packet.payload) (188 - (188 - length packet.payload)) into tail ≡ written packet
written-alone packet old into tail no_field size old_size into-is tail-is =
    let at : 4 ≡ 188 - length packet.payload = omega arith in
    let front : take (188 - length packet.payload) into ≡ written_packet_header packet = rw (into-is, ← at) refl in
    let fits : length into ≤ 188 - length packet.payload + (188 - (188 - length packet.payload)) = omega
    (arith, ap length into-is, length-append (written_packet_header packet) (drop 4 old), length-drop 4 old) in
    put_tail _ _ into _ tail front fits ∙ rw (tail-is, no_field) refl

-- payload behind a header and a field
pub written-beside : (packet : PacketRecord) (field : AdaptationField) (old into part tail : List ℕ) → packet.field ≡ Some field → length packet.payload + least_length field ≤ 183 → length old ≡ 188 →
    part ≡ written_field (Some field) (183 - length packet.payload) →
    into ≡ put_mid 4 (188 - length packet.payload - 4) (written_packet_header packet ++ drop 4 old) part → tail ≡ packet.payload →
    put_mid (188 - length packet.payload) (188 - (188 - length packet.payload)) into tail ≡ written packet
written-beside packet field old into part tail some size old_size part-is into-is tail-is =
    let part_size : length part ≡ 183 - length packet.payload + 1 = ap length part-is ∙ length-written_field field (183 - length packet.payload) (omega arith) in
    let base : List ℕ = written_packet_header packet ++ drop 4 old in
    let base_size : length base ≡ 188 = omega (arith, length-append (written_packet_header packet) (drop 4 old), length-drop 4 old) in
    let front : take (188 - length packet.payload) into ≡ written_packet_header packet
    ++ part = rw into-is (take-put_mid 4 (188 - length packet.payload - 4) base part (188 - length packet.payload) (omega arith) (omega arith))
    in
    let fits : length into ≤ 188 - length packet.payload + (188 - (188 - length packet.payload)) =
    omega (
      arith,
      ap length into-is,
      length-append (take 4 base) (part ++ drop (188 - length packet.payload - 4) (drop 4 base)),
      length-append part (drop (188 - length packet.payload - 4) (drop 4 base)),
      length-take 4 base,
      length-drop (188 - length packet.payload - 4) (drop 4 base),
      length-drop 4 base,
    ) in
    put_tail _ _ into _ tail front fits ∙ rw (tail-is, part-is, some) refl
