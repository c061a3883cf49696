-- A PES packet cut into the payloads of transport packets (ISO/IEC 13818-1, 2.4.3.3).
use Rattle.std.specs.Prelude.{ℕ, ◌+◌, ◌-◌, ◌*◌, ◌/◌, ◌==◌, List, length, take, drop, map}
use Rattle.std.specs.List.{range_with_len}
use Rattle.stream_constants.specs.declared.packets.TheConstants.{PAYLOAD_BYTES}
use Rattle.bit_lists.specs.Payload.{Payload}

-- how many packets carry so many bytes
abbrev pub packets_for : (bytes : ℕ) → ℕ
packets_for bytes = (bytes + (PAYLOAD_BYTES - 1)) / PAYLOAD_BYTES

-- what packet k of a PES packet carries: the bytes from 184 k on, as many as a packet has room for; it begins with packet 0
abbrev pub piece_of : (packet : List ℕ) → (k : ℕ) → Payload
piece_of packet k = record { start = k == 0; bytes = take PAYLOAD_BYTES (drop (PAYLOAD_BYTES * k) packet) }

-- all pieces of a PES packet, in order: as few as carry it
abbrev pub pes_pieces : (packet : List ℕ) → List Payload
pes_pieces packet = map (piece_of packet) (range_with_len 0 (packets_for (length packet)))
