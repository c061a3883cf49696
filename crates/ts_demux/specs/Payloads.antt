-- What a PID carries from a packet on (ISO/IEC 13818-1, 2.4.3.3).
use Rattle.std.specs.Prelude.{ℕ, List, Option, Some, None, map}
use Rattle.std.specs.List.{flat_map}
use Rattle.std.specs.Option.{option_map}
use Rattle.ts_packets.specs.declared.packet.Packet.{Packet}
use Rattle.ts_packets.specs.Packet.{PacketRecord, record_of}
use Rattle.ts_packets.specs.TransportStream.{piece_count, pid_pieces}
use Rattle.ts_packets.specs.Carried.{PlacedPacket, payload_packets, not_repeated, without_repeats, carried_by}

-- packets behind the last one with payload, where there is one, without each that repeats the one directly before it
abbrev pub not_repeated_behind : Option PacketRecord → List PlacedPacket → List PlacedPacket
not_repeated_behind None packets = without_repeats packets
not_repeated_behind (Some last) packets = not_repeated (record { at = 0; packet = last }) packets

-- the payload of a PID in a file from a packet number on, joined, behind its last packet with payload
abbrev pub payload_behind : List ℕ → ℕ → ℕ → Option Packet → List ℕ
payload_behind file pid next last =
    flat_map (λ carried. carried.payload.bytes) (map carried_by (not_repeated_behind (option_map record_of last) (payload_packets (pid_pieces file pid next (piece_count file)))))
