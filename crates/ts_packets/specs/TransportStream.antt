-- The packets of a transport stream (ISO/IEC 13818-1, 2.4.3).
use Rattle.std.specs.Prelude.{ℕ, ◌-◌, ◌*◌, ◌/◌, ◌==◌, Bool, List, length, drop, map, Option}
use Rattle.std.specs.List.{filter, range_with_len}
use Rattle.std.specs.Fork.{slice_chunk}
use Rattle.stream_constants.specs.declared.packets.TheConstants.{PACKET_BYTES}
use Rattle.ts_packets.specs.Packet.{PacketRecord, packet_identifier, packet_of}

-- the bytes of the n-th packet of a file, whether or not they are one
abbrev pub piece_at : List ℕ → ℕ → List ℕ
piece_at file n = slice_chunk file PACKET_BYTES n

-- how many whole packets' bytes a file has
abbrev pub piece_count : List ℕ → ℕ
piece_count file = length file / PACKET_BYTES

-- of each packet's bytes what is kept, or None where they are no packet
abbrev pub packets : List ℕ → List (Option PacketRecord)
packets file = map (λ n. packet_of (piece_at file n)) (range_with_len 0 (piece_count file))

-- the bytes behind the last whole packet's
abbrev pub rest_of : List ℕ → List ℕ
rest_of file = drop (PACKET_BYTES * piece_count file) file

-- ---- the packets of one PID

-- the bytes of a packet, and their place in the file
pub record Piece : Type 0 where
  pub at : ℕ
  pub bytes : List ℕ

-- the n-th bytes are a packet of the PID, which those that are refused have too
abbrev pub is_of_pid : List ℕ → ℕ → ℕ → Bool
is_of_pid file pid n = packet_identifier (piece_at file n) == pid

-- the packets of a PID, from a number up to another, which isn't one of them
abbrev pub pid_pieces : List ℕ → ℕ → ℕ → ℕ → List Piece
pid_pieces file pid from to = map (λ n. record { at = PACKET_BYTES * n; bytes = piece_at file n }) (filter (is_of_pid file pid) (range_with_len from (to - from)))
