-- What the packets of one PID carry, and how their counters rise (ISO/IEC 13818-1, 2.4.3.3 and 2.4.3.5).
use Rattle.std.specs.Prelude.{ℕ, ◌+◌, ◌%◌, ◌==◌, nat_lt, Bool, false, not, ◌&&◌, ◌||◌, List, [], ◌∷◌, length, map, Option, Some, None, option_and_then, if◌then◌else◌}
use Rattle.std.specs.List.{filter, filter_map, flat_map, last_or}
use Rattle.std.specs.Option.{option_map, option_map_or, option_or}
use Rattle.std.specs.Str.{bytes_eq}
use Rattle.bit_lists.specs.Payload.{CarriedPayload, Payload}
use Rattle.ts_packets.specs.declared.pid_fault.PidFault.{PidFault}
use Rattle.ts_packets.specs.declared.pid_fault.PidFault.TheVariants.{Refused, Discontinuity, Gap}
use Rattle.ts_packets.specs.Packet.{PacketRecord, packet_of, transport_refusal}
use Rattle.ts_packets.specs.TransportStream.{Piece, piece_count, pid_pieces}

-- a packet, and its place in the file
pub record PlacedPacket : Type 0 where
  pub at : ℕ
  pub packet : PacketRecord

-- the packet that a piece is
abbrev pub placed : Piece → Option PlacedPacket
placed piece = option_map (λ packet. record { at = piece.at; packet = packet }) (packet_of piece.bytes)

-- the packet has payload
abbrev pub has_payload : PlacedPacket → Bool
has_payload placed = nat_lt 0 (length placed.packet.payload)

-- the packets among some pieces that have payload
abbrev pub payload_packets : List Piece → List PlacedPacket
payload_packets pieces = filter has_payload (filter_map placed pieces)

-- the counter and the payload come again
abbrev pub is_repeat : PacketRecord → PacketRecord → Bool
is_repeat packet before = (packet.counter == before.counter) && bytes_eq packet.payload before.payload

-- the packets behind one, without each that repeats the one directly before it
abbrev pub not_repeated : PlacedPacket → List PlacedPacket → List PlacedPacket
not_repeated before [] = []
not_repeated before (next ∷ packets) = if is_repeat next.packet before.packet then not_repeated next packets else next ∷ not_repeated next packets

-- packets without each that repeats the one directly before it
abbrev pub without_repeats : List PlacedPacket → List PlacedPacket
without_repeats [] = []
without_repeats (first ∷ packets) = first ∷ not_repeated first packets

-- start flag and payload of a packet, at its place
abbrev pub carried_by : PlacedPacket → CarriedPayload
carried_by placed = record { at = placed.at; payload = record { start = placed.packet.start; bytes = placed.packet.payload } }

-- What some pieces of a PID carry, in order: the payload of each packet that has some, without repeats. Whether the
-- counters rise as they must is no part of it.
abbrev pub carried : List Piece → List CarriedPayload
carried pieces = map carried_by (without_repeats (payload_packets pieces))

-- the payload of a PID in a file, joined
abbrev pub joined_payload : List ℕ → ℕ → List ℕ
joined_payload file pid = flat_map (λ carried. carried.payload.bytes) (carried (pid_pieces file pid 0 (piece_count file)))

-- ---- packets as records

-- the packet is of the PID and has payload
abbrev pub has_payload_on : ℕ → PacketRecord → Bool
has_payload_on pid packet = (packet.pid == pid) && nat_lt 0 (length packet.payload)

-- a packet's start flag and payload
abbrev pub payload_of : PacketRecord → Payload
payload_of packet = record { start = packet.start; bytes = packet.payload }

-- the payloads of a PID, in order
abbrev pub payloads_on : ℕ → List PacketRecord → List Payload
payloads_on pid packets = map payload_of (filter (has_payload_on pid) packets)

-- ---- the counter rule

-- discontinuity_indicator of a packet's adaptation field
abbrev pub is_discontinuous : PacketRecord → Bool
is_discontinuous packet = option_map_or (λ field. field.discontinuity) packet.field false

-- the last packet with payload among some pieces
abbrev pub last_payload : List Piece → Option PlacedPacket
last_payload pieces = last_or None (payload_packets pieces)

-- the packet goes on behind the one before it with payload: its counter is the next one, or it repeats that packet
abbrev pub follows : PacketRecord → PacketRecord → Bool
follows packet before = (packet.counter == (before.counter + 1) % 16) || is_repeat packet before

-- Packets without payload have no part in the counters; the first packet with payload may have any.
abbrev pub has_gap : List Piece → PacketRecord → Bool
has_gap before packet = nat_lt 0 (length packet.payload) && option_map_or (λ last. not (follows packet last.packet)) (last_payload before) false

-- only the first packet of the PID may have the discontinuity indicator
abbrev pub is_late_discontinuity : List Piece → PacketRecord → Bool
is_late_discontinuity [] packet = false
is_late_discontinuity (_ ∷ _) packet = is_discontinuous packet

-- what refuses a packet for the packets of its PID before it
abbrev pub order_fault : List Piece → PacketRecord → Option PidFault
order_fault before packet = if is_late_discontinuity before packet then Some Discontinuity else if has_gap before packet then Some Gap else None

-- the first fault of a packet behind the others of its PID: its own first fault, or a discontinuity, or a gap
abbrev pub pid_fault : List Piece → Piece → Option PidFault
pid_fault before piece = option_or (option_map Refused (transport_refusal piece.bytes)) (option_and_then (order_fault before) (packet_of piece.bytes))
