-- The PES packets of a PID as headers and payloads, for worked examples.
use Rattle.std.specs.Prelude.{ℕ, Bool, List, [], ◌∷◌, drop, if◌then◌else◌}
use Rattle.pes_units.specs.declared.pes_header.PesHeader.{PesHeader}
use Rattle.pes_units.specs.PesHeader.{header_length, pes_fields_of}
use Rattle.pes_units.specs.PesPackets.{Gathered, is_dropped}

-- a PES packet: its header, and what follows it
pub record PesPacket : Type 0 where
  pub header : PesHeader
  pub payload : List ℕ

-- the packet that the bytes are
abbrev pub packet_of : List ℕ → PesPacket
packet_of bytes = record { header = pes_fields_of bytes; payload = drop (header_length bytes) bytes }

-- the header and the payload of each of the gathered packets, where nothing refuses them; a dropped last one is left out
abbrev pub pes_packets : Bool → List Gathered → List PesPacket
pes_packets video [] = []
pes_packets video (last ∷ []) = if is_dropped video last.bytes then [] else packet_of last.bytes ∷ []
pes_packets video (packet ∷ next ∷ packets) = packet_of packet.bytes ∷ pes_packets video (next ∷ packets)
