-- What is written is a packet, with the record that it was written from.
use Rattle.std.proofs.Common.{◌≡◌, ℕ, ◌+◌, ◌-◌, ◌^◌, ◌<◌, ◌≤◌, true, List, [], ◌∷◌, ◌++◌, Option, Some, None, length, drop, refl, sym, ap, subst, ◌∙◌, length-append, inl, inr, ◌⊎◌, arith}
use Rattle.std.specs.Prelude.{IfSome, ◌==◌, is_some, nat_lt}
use Rattle.std.proofs.lemmas.Bool.{cases_lt, cond-true, lt-ltb, le-ltb, le-leb}
use Rattle.std.proofs.lemmas.List.{take_at, drop_at, drop-drop}
use Rattle.bit_lists.specs.Fields.{flag}
use Rattle.ts_packets.specs.declared.adaptation_field.AdaptationField.{AdaptationField}
use Rattle.ts_packets.specs.AdaptationField.{field_of, IsPcrInRange, least_length, written_field_bytes, written_field}
use Rattle.ts_packets.specs.Packet.{
  PacketRecord,
  sync_byte,
  transport_error_indicator,
  payload_unit_start_indicator,
  packet_identifier,
  transport_scrambling_control,
  adaptation_field_control,
  adaptation_field_length,
  continuity_counter,
  has_field,
  field_bytes,
  IsPacket,
  IsPayloadLength,
  IsWritable,
  written,
  written_packet_header,
  written_control,
}
use Rattle.ts_packets.proofs.Elements.{
  sync_byte-is,
  transport_error_indicator-is,
  payload_unit_start_indicator-is,
  packet_identifier-is,
  transport_scrambling_control-is,
  adaptation_field_control-is,
  continuity_counter-is,
  adaptation_field_length-is,
  pcr_flag-is,
}
use Rattle.ts_packets.proofs.Refusals.{allowed, same_record}
use Rattle.ts_packets.proofs.Writing.{length-written_field_bytes}
use Rattle.ts_packets.proofs.WrittenFields.{flag_tells, field_of-written, pcr-written}
use Rattle.bit_lists.proofs.FieldLemmas.{flag_below}

-- what the first four bytes of a packet say
record IsFront (packet : PacketRecord) (bytes : List ℕ) : Type 0 where
  sync : sync_byte bytes ≡ 0x47
  error : transport_error_indicator bytes ≡ 0
  start : (payload_unit_start_indicator bytes == 1) ≡ packet.start
  pid : packet_identifier bytes ≡ packet.pid
  scrambling : transport_scrambling_control bytes ≡ 0
  control : adaptation_field_control bytes ≡ written_control packet
  counter : continuity_counter bytes ≡ packet.counter

control_below : (packet : PacketRecord) → written_control packet < 4
control_below packet = omega (arith, flag_below (is_some packet.field), flag_below (nat_lt 0 (length packet.payload)))

front : (packet : PacketRecord) (rest : List ℕ) → packet.pid < 2 ^ 13 → packet.counter < 2 ^ 4 → IsFront packet (written_packet_header packet ++ rest)
front packet rest pid_fits counter_fits =
    let bytes : List ℕ = written_packet_header packet ++ rest in
    let start_fits : flag packet.start < 2 = flag_below packet.start in
    let control_fits : written_control packet < 4 = control_below packet in
    let start-is : payload_unit_start_indicator bytes ≡ flag packet.start = omega (arith, payload_unit_start_indicator-is bytes) in
    record {
      sync = omega (arith, sync_byte-is bytes);
      error = omega (arith, transport_error_indicator-is bytes);
      start = rw start-is (flag_tells packet.start);
      pid = omega (arith, packet_identifier-is bytes);
      scrambling = omega (arith, transport_scrambling_control-is bytes);
      control = omega (arith, adaptation_field_control-is bytes);
      counter = omega (arith, continuity_counter-is bytes);
    }

-- the bit for payload says whether there is some
payload_flag : (n : ℕ) → ((flag (nat_lt 0 n) ≡ 0) × (n ≡ 0)) ⊎ ((flag (nat_lt 0 n) ≡ 1) × (0 < n))
payload_flag n = elim (cases_lt 0 n) [
  | inl some ↦ inr (rw (lt-ltb 0 n some) refl, some)
  | inr none ↦ inl (rw (le-ltb 0 n none) refl, omega arith)
]

-- payload alone
alone : (packet : PacketRecord) → packet.pid < 2 ^ 13 → packet.counter < 2 ^ 4 → packet.field ≡ None → length packet.payload ≡ 184 → IsPacket packet (written_packet_header packet ++ packet.payload)
alone packet pid_fits counter_fits none size =
    let bytes : List ℕ = written_packet_header packet ++ packet.payload in
    let says = front packet packet.payload pid_fits counter_fits in
    let control-is : adaptation_field_control bytes ≡ 1 = says.control ∙ rw (none, size) refl in
    record {
      size = omega (arith, length-append (written_packet_header packet) packet.payload);
      sync = says.sync;
      error = says.error;
      scrambling = says.scrambling;
      control = record {
        length_is = allowed (adaptation_field_control bytes) (adaptation_field_length bytes) (omega (arith, adaptation_field_control-is bytes))
            (λ reserved. absurd (omega (arith, control-is, reserved))) (λ is. absurd (omega (arith, control-is, is)))
            (λ is. absurd (omega (arith, control-is, is)));
        pcr = λ flagged. absurd (omega (arith, pcr_flag-is [], rw control-is at flagged));
      };
      fields = same_record (sym says.pid) (sym says.start) (sym says.counter) (rw control-is none) (rw control-is refl);
    }

-- a field, and payload behind it
beside : (packet : PacketRecord) (field : AdaptationField) (n : ℕ) → packet.pid < 2 ^ 13 → packet.counter < 2 ^ 4 → packet.field ≡ Some field
    → IsPcrInRange field → least_length field ≤ n → n + length packet.payload ≡ 183 →
    IsPacket packet (written_packet_header packet ++ (n ∷ (written_field_bytes field n ++ packet.payload)))
beside packet field n pid_fits counter_fits some below room size =
    let behind : List ℕ = written_field_bytes field n ++ packet.payload in
    let bytes : List ℕ = written_packet_header packet ++ (n ∷ behind) in
    let says = front packet (n ∷ behind) pid_fits counter_fits in
    let control-is : adaptation_field_control bytes ≡ 2 + flag (nat_lt 0 (length packet.payload)) = says.control ∙ rw some refl in
    let there : has_field bytes ≡ true = le-leb 2 (adaptation_field_control bytes) (omega (arith, control-is)) in
    let length-is : adaptation_field_length bytes ≡ n = omega (arith, adaptation_field_length-is bytes) in
    let field_size : length (written_field_bytes field n) ≡ n = length-written_field_bytes field n room in
    let field-is : field_bytes bytes ≡ written_field_bytes field n = rw (there, length-is) (take_at (written_field_bytes field n) packet.payload n field_size) in
    let payload-is : drop (5 + n) bytes ≡ packet.payload = sym (drop-drop n 5 bytes) ∙ drop_at (written_field_bytes field n) packet.payload n field_size in
    let kept : field_of (field_bytes bytes) ≡ field = ap field_of field-is ∙ field_of-written field n room below in
    record {
      size = omega (arith, length-append (written_field_bytes field n) packet.payload);
      sync = says.sync;
      error = says.error;
      scrambling = says.scrambling;
      control = record {
        length_is = allowed (adaptation_field_control bytes) (adaptation_field_length bytes) (omega (arith, adaptation_field_control-is bytes))
            (λ reserved. absurd (omega (arith, control-is, reserved)))
            (λ is. omega (arith, length-is, size, control-is, is, payload_flag (length packet.payload)))
            (λ is. omega (arith, length-is, size, control-is, is, payload_flag (length packet.payload)));
        pcr = λ flagged. omega (arith, ap length field-is, field_size, pcr-written field n room (rw field-is at flagged));
      };
      fields = same_record (sym says.pid) (sym says.start) (sym says.counter)
          (some ∙ ap Some (sym kept) ∙ sym (cond-true (has_field bytes) (Some (field_of (field_bytes bytes))) None there))
          (sym (cond-true (has_field bytes) (drop (5 + adaptation_field_length bytes) bytes) (drop 4 bytes) there ∙ ap (λ (k : ℕ). drop (5 + k) bytes) length-is ∙ payload-is));
    }

-- the bytes of a packet, were this its field
abbrev with_field : PacketRecord → Option AdaptationField → List ℕ
with_field packet field = written_packet_header packet ++ (written_field field (183 - length packet.payload) ++ packet.payload)

-- what is written is a packet
pub written-packet : (packet : PacketRecord) → IsWritable packet → IsPacket packet (written packet)
written-packet packet writable = by_field packet.field refl
  where
    by_field : (found : Option AdaptationField) → packet.field ≡ found → IsPacket packet (written packet)
    by_field None none =
        let size : length packet.payload ≡ 184 = subst (λ (field : Option AdaptationField). IsPayloadLength field (length packet.payload)) none writable.payload in
        subst (IsPacket packet) (ap (with_field packet) (sym none)) (alone packet writable.pid writable.counter none size)
    by_field (Some field) some =
        let fits : length packet.payload + least_length field ≤ 183 = subst (λ (found : Option AdaptationField). IsPayloadLength found (length packet.payload)) some writable.payload in
        let ticks : IsPcrInRange field = subst (λ (found : Option AdaptationField). IfSome found IsPcrInRange) some writable.pcr in
        subst (IsPacket packet) (ap (with_field packet) (sym some)) (beside packet field (183 - length packet.payload) writable.pid writable.counter some ticks (omega arith) (omega arith))
