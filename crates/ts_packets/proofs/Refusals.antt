-- Bytes have a record exactly where nothing refuses them.
use Rattle.std.proofs.Common.{◌≡◌, ◌≢◌, ℕ, ◌<◌, ◌≤◌, Bool, true, false, not, cond, ◌+◌, List, [], ◌∷◌, length, get_or, take, drop, Option, Some, None, refl, sym, ap, ◌∙◌, arith}
use Rattle.std.proofs.lemmas.Bool.{or_parts, not-false, eqb-true, eqb-false}
use Rattle.std.proofs.lemmas.Bool.Decides.{nat_tests}
use Rattle.std.specs.Prelude.{is_none, nat_eq, ◌==◌, bit_and}
use Rattle.std.specs.List.{find}
use Rattle.bit_lists.proofs.MaskLemmas.{and_15}
use Rattle.ts_packets.specs.declared.adaptation_field.AdaptationField.{AdaptationField}
use Rattle.ts_packets.specs.declared.packet_fault.PacketFault.{PacketFault}
use Rattle.ts_packets.specs.declared.packet_fault.PacketFault.TheVariants.{Sync, ErrorFlag, Scrambled, BadField}
use Rattle.ts_packets.specs.AdaptationField.{field_of, is_too_short}
use Rattle.ts_packets.specs.Packet.{
  PacketRecord,
  sync_byte,
  packet_identifier,
  payload_unit_start_indicator,
  continuity_counter,
  adaptation_field_control,
  adaptation_field_length,
  has_field,
  field_bytes,
  is_length_allowed,
  has_fault,
  IsFieldSound,
  IsPacket,
  fields_of,
  transport_refusal,
  packet_of,
}
use Rattle.ts_packets.specs.Private.Packet.{HasFieldAndPayload}
use Rattle.ts_packets.proofs.Elements.{transport_error_indicator-is, continuity_counter-is, pcr_flag-is, elements}

-- what a field of a given control is asked for
pub allowed : (control size : ℕ) → control < 4 → control ≢ 0 → (control ≡ 2 → size ≡ 183) → (control ≡ 3 → size ≤ 182) → is_length_allowed control size ≡ true
allowed control size below used alone beside = grind (arith, nat_tests)

-- a sound field is no fault
pub sound-passes : (bytes : List ℕ) → IsFieldSound bytes → has_fault bytes BadField ≡ false
sound-passes bytes sound = grind (arith, nat_tests, sound.length_is, sound.pcr)

-- where there is no fault the field is sound
pub passes-sound : (bytes : List ℕ) → has_fault bytes BadField ≡ false → IsFieldSound bytes
passes-sound bytes passes =
    let parts = or_parts (not (is_length_allowed (adaptation_field_control bytes) (adaptation_field_length bytes))) (is_too_short (field_bytes bytes)) passes in
    record {
      length_is = not-false _ parts.0;
      pcr = λ flagged. grind (arith, nat_tests, parts.1, flagged);
    }

-- a packet has no fault
pub packet-passes : (packet : PacketRecord) (bytes : List ℕ) → IsPacket packet bytes → transport_refusal bytes ≡ None
packet-passes packet bytes is = grind (arith, nat_tests, is.sync, is.error, is.scrambling, sound-passes bytes is.control)

-- a search that finds nothing
finds_none : (fault : PacketFault) (has : Bool) (others : Option PacketFault) → cond has (Some fault) others ≡ None → (has ≡ false) × (others ≡ None)
finds_none fault true others e = absurd cc
finds_none fault false others e = (refl, e)

-- what has no fault is a packet
pub passes-packet : (packet : PacketRecord) (bytes : List ℕ) → length bytes ≡ 188 → transport_refusal bytes ≡ None → packet ≡ fields_of bytes → IsPacket packet bytes
passes-packet packet bytes size passes is =
    let sync = finds_none Sync (has_fault bytes Sync) (find (has_fault bytes) (ErrorFlag ∷ Scrambled ∷ BadField ∷ [])) passes in
    let error = finds_none ErrorFlag (has_fault bytes ErrorFlag) (find (has_fault bytes) (Scrambled ∷ BadField ∷ [])) sync.1 in
    let scrambling = finds_none Scrambled (has_fault bytes Scrambled) (find (has_fault bytes) (BadField ∷ [])) error.1 in
    let field = finds_none BadField (has_fault bytes BadField) None scrambling.1 in
    record {
      size = size;
      sync = eqb-true _ _ (not-false _ sync.0);
      error = omega (arith, transport_error_indicator-is bytes, eqb-false _ _ error.0);
      scrambling = eqb-true _ _ (not-false _ scrambling.0);
      control = passes-sound bytes field.0;
      fields = is;
    }

-- the record of a packet is the one that is computed
pub packet-found : (packet : PacketRecord) (bytes : List ℕ) → IsPacket packet bytes → packet_of bytes ≡ Some packet
packet-found packet bytes is = ap (λ (fault : Option PacketFault). cond (is_none fault) (Some (fields_of bytes)) None) (packet-passes packet bytes is) ∙ ap Some (sym is.fields)

-- ---- what the code finds

-- where there is payload alone
pub payload_alone : (bytes payload : List ℕ) → has_field bytes ≡ false
    → is_length_allowed (adaptation_field_control bytes) (adaptation_field_length bytes) ≡ true → payload ≡ drop 4 bytes
    → HasFieldAndPayload bytes None payload
payload_alone bytes payload none allowed is = (rw (allowed, none, pcr_flag-is []) refl, rw none refl, rw none is)

-- where there is a field, with room for its PCR
pub field_first : (bytes : List ℕ) (size : ℕ) (part : List ℕ) (field : AdaptationField) (payload : List ℕ) → has_field bytes ≡ true
    → is_length_allowed (adaptation_field_control bytes) (adaptation_field_length bytes) ≡ true → adaptation_field_length bytes ≡ size →
    part ≡ take size (drop 5 bytes) → (is_too_short part ≡ false) × (field ≡ field_of part) → payload ≡ drop (5 + size) bytes → HasFieldAndPayload bytes (Some field) payload
field_first bytes size part field payload some allowed size-is part-is found
    payload-is = (rw (allowed, some, size-is, ← part-is) found.0, rw (some, size-is, ← part-is) (ap Some found.1), rw (some, size-is) payload-is)

-- a field that was read
pub field_found : (too_short : Bool) (found field : AdaptationField) → Some field ≡ cond too_short None (Some found) → (too_short ≡ false) × (field ≡ found)
field_found true found field e = absurd cc
field_found false found field e = (refl, cc)

-- a record from its parts, and equal ones from equal parts
abbrev pub record_from : ℕ → Bool → ℕ → Option AdaptationField → List ℕ → PacketRecord
record_from pid start counter field payload = record { pid = pid; start = start; counter = counter; field = field; payload = payload }

pub same_record : {pid pid' counter counter' : ℕ} {start start' : Bool} {field field' : Option AdaptationField} {payload payload' : List ℕ}
    → pid ≡ pid' → start ≡ start' → counter ≡ counter' → field ≡ field' → payload ≡ payload' →
    record_from pid start counter field payload ≡ record_from pid' start' counter' field' payload'
same_record pid-is start-is counter-is field-is payload-is = cc

-- the bytes are a packet, where each fault was looked for
pub is_packet : (bytes : List ℕ) (pid : ℕ) (field : Option AdaptationField) (payload : List ℕ) → length bytes ≡ 188 → (sync_byte bytes ≡ 0x47) × (pid ≡ packet_identifier bytes) →
    bit_and (get_or bytes 1 0) 128 ≡ 0 → bit_and (get_or bytes 3 0) 192 ≡ 0 → HasFieldAndPayload bytes field payload →
    IsPacket (record_from pid (not (nat_eq (bit_and (get_or bytes 1 0) 64) 0)) (bit_and (get_or bytes 3 0) 15) field payload) bytes
is_packet bytes pid field payload size front error scrambling sound =
    let passes : transport_refusal bytes ≡ None = grind (arith, nat_tests, elements, front.0, error, scrambling, sound.0) in
    let start-is : not (nat_eq (bit_and (get_or bytes 1 0) 64) 0) ≡ (payload_unit_start_indicator bytes == 1) = grind (arith, nat_tests, elements) in
    let counter-is : bit_and (get_or bytes 3 0) 15 ≡ continuity_counter bytes = and_15 (get_or bytes 3 0) ∙ sym (continuity_counter-is bytes) in
    passes-packet _ bytes size passes (same_record front.1 start-is counter-is sound.1 sound.2)
