-- A transport packet (ISO/IEC 13818-1, 2.4.3.2 and 2.4.3.3).
use Rattle.std.specs.Prelude.{
  ◌≡◌,
  ℕ,
  ◌+◌,
  ◌-◌,
  ◌*◌,
  ◌^◌,
  ◌<◌,
  ◌≤◌,
  ◌==◌,
  nat_lt,
  nat_le,
  Bool,
  true,
  not,
  ◌&&◌,
  ◌||◌,
  List,
  [],
  ◌∷◌,
  ◌++◌,
  length,
  take,
  drop,
  Option,
  Some,
  None,
  is_some,
  is_none,
  IfSome,
  if◌then◌else◌,
}
use Rattle.std.specs.List.{find}
use Rattle.std.specs.Int.{w32, to_be_bytes}
use Rattle.ts_packets.specs.declared.adaptation_field.AdaptationField.{AdaptationField}
use Rattle.ts_packets.specs.declared.packet.Packet.{Packet}
use Rattle.ts_packets.specs.declared.packet_fault.PacketFault.{PacketFault}
use Rattle.ts_packets.specs.declared.packet_fault.PacketFault.TheVariants.{Sync, ErrorFlag, Scrambled, BadField}
use Rattle.stream_constants.specs.declared.packets.TheConstants.{PACKET_BYTES, PAYLOAD_BYTES, SYNC_BYTE}
use Rattle.bit_lists.specs.Fields.{bits, flag}
use Rattle.ts_packets.specs.AdaptationField.{pcr_flag, field_of, is_too_short, IsPcrInRange, least_length, written_field}

-- what is kept of a packet, wherever its payload lies in memory
pub record PacketRecord : Type 0 where
  pub pid : ℕ
  pub start : Bool
  pub counter : ℕ
  pub field : Option AdaptationField
  pub payload : List ℕ

-- the record of a packet in memory
abbrev pub record_of : Packet → PacketRecord
record_of packet = record {
  pid = packet.pid;
  start = packet.start;
  counter = packet.counter;
  field = packet.field;
  payload = packet.payload.now;
}

-- ---- its elements, each by its first bit and its number of bits

-- SYNC_BYTE before every packet
abbrev pub sync_byte : List ℕ → ℕ
sync_byte bytes = bits bytes 0 8

-- 1 for a packet that was received with errors
abbrev pub transport_error_indicator : List ℕ → ℕ
transport_error_indicator bytes = bits bytes 8 1

-- 1 where a section or a PES packet begins in the payload
abbrev pub payload_unit_start_indicator : List ℕ → ℕ
payload_unit_start_indicator bytes = bits bytes 9 1

-- the PID
abbrev pub packet_identifier : List ℕ → ℕ
packet_identifier bytes = bits bytes 11 13

-- 0 is not scrambled
abbrev pub transport_scrambling_control : List ℕ → ℕ
transport_scrambling_control bytes = bits bytes 24 2

-- 1 is payload alone, 2 an adaptation field alone, 3 a field and then payload
abbrev pub adaptation_field_control : List ℕ → ℕ
adaptation_field_control bytes = bits bytes 26 2

-- rises by 1 modulo 16 with each packet with payload of a PID
abbrev pub continuity_counter : List ℕ → ℕ
continuity_counter bytes = bits bytes 28 4

-- the number of bytes behind this element in the field
abbrev pub adaptation_field_length : List ℕ → ℕ
adaptation_field_length bytes = bits bytes 32 8

-- ---- what is kept of it

-- a field stands behind the header
abbrev pub has_field : List ℕ → Bool
has_field bytes = nat_le 2 (adaptation_field_control bytes)

-- the field's bytes behind its length byte; none where there is no field
abbrev pub field_bytes : List ℕ → List ℕ
field_bytes bytes = if has_field bytes then take (adaptation_field_length bytes) (drop 5 bytes) else []

-- field by field, what the bytes say
abbrev pub fields_of : List ℕ → PacketRecord
fields_of bytes = record {
  pid = packet_identifier bytes;
  start = payload_unit_start_indicator bytes == 1;
  counter = continuity_counter bytes;
  field = if has_field bytes then Some (field_of (field_bytes bytes)) else None;
  payload = if has_field bytes then drop (5 + adaptation_field_length bytes) bytes else drop 4 bytes;
}

-- bytes of the longest adaptation field: what the header and the field's length byte leave
abbrev pub longest_field : ℕ
longest_field = PAYLOAD_BYTES - 1

-- A field alone is as long as the packet allows, and one beside payload shorter; adaptation_field_control 0 is reserved.
abbrev pub is_length_allowed : ℕ → ℕ → Bool
is_length_allowed control size = (control == 1) || ((control == 2) && (size == longest_field)) || ((control == 3) && nat_lt size longest_field)

-- adaptation_field_control and the field's length agree, and there is room for a PCR
pub record IsFieldSound (bytes : List ℕ) : Type 0 where
  pub length_is : is_length_allowed (adaptation_field_control bytes) (adaptation_field_length bytes) ≡ true
  pub pcr : pcr_flag (field_bytes bytes) ≡ 1 → 7 ≤ length (field_bytes bytes)

-- The bytes are a packet, and the record is what is kept of it. What isn't named here may be anything: the priority,
-- reserved bits, the other flags of the field and what stands behind them.
pub record IsPacket (packet : PacketRecord) (bytes : List ℕ) : Type 0 where
  pub size : length bytes ≡ PACKET_BYTES
  pub sync : sync_byte bytes ≡ SYNC_BYTE
  pub error : transport_error_indicator bytes ≡ 0
  pub scrambling : transport_scrambling_control bytes ≡ 0
  pub control : IsFieldSound bytes
  pub fields : packet ≡ fields_of bytes

-- ---- what refuses it

-- the bytes have this fault
abbrev pub has_fault : List ℕ → PacketFault → Bool
has_fault bytes Sync = not (sync_byte bytes == SYNC_BYTE)
has_fault bytes ErrorFlag = transport_error_indicator bytes == 1
has_fault bytes Scrambled = not (transport_scrambling_control bytes == 0)
has_fault bytes BadField = not (is_length_allowed (adaptation_field_control bytes) (adaptation_field_length bytes)) || is_too_short (field_bytes bytes)

-- the first fault that the bytes have
abbrev pub transport_refusal : List ℕ → Option PacketFault
transport_refusal bytes = find (has_fault bytes) (Sync ∷ ErrorFlag ∷ Scrambled ∷ BadField ∷ [])

-- what is kept of bytes that nothing refuses
abbrev pub packet_of : List ℕ → Option PacketRecord
packet_of bytes = if is_none (transport_refusal bytes) then Some (fields_of bytes) else None

-- ---- how it is written

-- so much payload fills a packet without a field, or has room beside it
abbrev pub IsPayloadLength : Option AdaptationField → ℕ → Type 0
IsPayloadLength None n = n ≡ PAYLOAD_BYTES
IsPayloadLength (Some field) n = n + least_length field ≤ longest_field

-- what can be written
pub record IsWritable (packet : PacketRecord) : Type 0 where
  pub pid : packet.pid < 2 ^ 13
  pub counter : packet.counter < 2 ^ 4
  pub pcr : IfSome packet.field IsPcrInRange
  pub payload : IsPayloadLength packet.field (length packet.payload)

-- its first bit says that there is a field, its second one that there is payload
abbrev pub written_control : PacketRecord → ℕ
written_control packet = 2 * flag (is_some packet.field) + flag (nat_lt 0 (length packet.payload))

-- sync byte, start, PID, control and counter in their places; error, priority and scrambling are 0
abbrev pub written_packet_header : PacketRecord → List ℕ
written_packet_header packet = to_be_bytes w32 (2 ^ 24 * SYNC_BYTE + 2 ^ 22 * flag packet.start + 2 ^ 8 * packet.pid + 2 ^ 4 * written_control packet + packet.counter)

-- the one written spelling of a packet
abbrev pub written : PacketRecord → List ℕ
written packet = written_packet_header packet ++ written_field packet.field (longest_field - length packet.payload) ++ packet.payload
