-- What each byte of payload that a PID carries is to the decoder of its stream: of a PES header, of the elementary stream, or none of these, so that it counts in
-- TB alone (ISO/IEC 13818-1, 2.4.2.3 and 2.4.3.6; which PES packets and bytes are kept is this project's).
use Rattle.std.specs.Prelude.{ℕ, ◌+◌, nat_lt, nat_le, Bool, true, false, ◌&&◌, List, [], ◌∷◌, ◌++◌, length, map, take, drop, replicate, count_by, if◌then◌else◌}
use Rattle.std.specs.List.{range_with_len}
use Rattle.pes_units.specs.PesHeader.{header_length}
use Rattle.tstd_model.specs.declared.decoder_input.Arrival.{Arrival}
use Rattle.tstd_model.specs.declared.decoder_input.PacketPart.{PacketPart}
use Rattle.tstd_model.specs.declared.decoder_input.PacketPart.TheVariants.{Overhead, PesHeader, Data}
use Rattle.tstd_model.specs.PacketBytes.{is_payload}
use Rattle.ts_demux.specs.declared.demuxed.PesUnit.{PesUnit}
use Rattle.ts_demux.specs.declared.pid_places.Place.{Place}
use Rattle.elementary_streams.specs.Packets.{pes_payload_of}

-- ---- what the bytes of PES packets are

-- which bytes of an elementary stream are kept: those from one place up to another, which isn't one of them
pub record KeptSpan : Type 0 where
  pub from : ℕ
  pub to : ℕ

-- an elementary byte at a place
abbrev pub part_at : KeptSpan → ℕ → PacketPart
part_at span place = if nat_le span.from place && nat_lt place span.to then Data else Overhead

-- the bytes of a PES packet whose payload begins at a place of the elementary stream
abbrev pub parts_of_packet : KeptSpan → (at : ℕ) → PesUnit → List PacketPart
parts_of_packet span at packet = replicate (header_length packet.bytes) PesHeader ++ map (part_at span) (range_with_len at (length (pes_payload_of packet)))

-- the bytes of PES packets, the payload of the first of which begins at a place
abbrev pub parts_of_packets : KeptSpan → (at : ℕ) → List PesUnit → List PacketPart
parts_of_packets span at [] = []
parts_of_packets span at (packet ∷ packets) = parts_of_packet span at packet ++ parts_of_packets span (at + length (pes_payload_of packet)) packets

-- how many bytes packets carry before the first one in which a PES packet begins
abbrev pub bytes_before : List Place → ℕ
bytes_before [] = 0
bytes_before (place ∷ places) = if place.start then 0 else (place.payload + bytes_before places)

-- The bytes that the packets of a PID carry, whose taken PES packets are these: those before the first PES packet belong to none, nor do those behind the last
-- taken one, which have no entry.
abbrev pub parts_carried : KeptSpan → List Place → List PesUnit → List PacketPart
parts_carried span places packets = replicate (bytes_before places) Overhead ++ parts_of_packets span 0 packets

-- ---- the transport packets that bring them

-- a byte of a PES header
abbrev pub is_pes_header : PacketPart → Bool
is_pes_header Overhead = false
is_pes_header PesHeader = true
is_pes_header Data = false

-- A packet comes to a decoder in its slot, with these bytes: behind TB go those of PES headers and then the elementary ones.
abbrev pub brought_by : Place → List PacketPart → Arrival
brought_by place parts = record { slot_no = place.packet; header = count_by is_pes_header parts; payload = count_by is_payload parts }

-- packets come, whose payloads one behind the other have these bytes
abbrev pub brought_by_all : List Place → List PacketPart → List Arrival
brought_by_all [] parts = []
brought_by_all (place ∷ places) parts = brought_by place (take place.payload parts) ∷ brought_by_all places (drop place.payload parts)
