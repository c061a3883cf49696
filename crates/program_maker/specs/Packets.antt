-- Transport packets of a generated program (ISO/IEC 13818-1, 2.4.3.2 to 2.4.3.5).
use Rattle.std.specs.Prelude.{ℕ, ◌+◌, ◌-◌, ◌*◌, ◌/◌, ◌%◌, ◌==◌, ◌&&◌, nat_lt, Bool, true, false, Option, Some, None, List, [], ◌∷◌, ◌++◌, length, map, if◌then◌else◌}
use Rattle.std.specs.List.{filter, range_with_len}
use Rattle.std.specs.Fork.{slice_chunk}
use Rattle.stream_constants.specs.declared.clock.TheConstants.{TICKS_PER_TIME_UNIT}
use Rattle.stream_constants.specs.declared.packets.TheConstants.{PAYLOAD_BYTES}
use Rattle.ts_packets.specs.declared.adaptation_field.AdaptationField.{AdaptationField}
use Rattle.ts_packets.specs.Packet.{PacketRecord}
use Rattle.psi_tables.specs.Sections.{section_payload}
use Rattle.program_maker.specs.declared.format.TheConstants.{VIDEO_PID, PCR_LEAD}
use Rattle.program_maker.specs.Streams.{picture_dts}

-- ---- packets before their counters are set

-- a payload that fills no packet has an adaptation field beside it, which is stuffed
abbrev pub stuffing : ℕ → Option AdaptationField
stuffing size = if size == PAYLOAD_BYTES then None else Some (record { discontinuity = false; pcr = None })

-- a packet of a PID with a payload
abbrev pub payload_packet : ℕ → Bool → List ℕ → PacketRecord
payload_packet pid start payload = record { pid = pid; start = start; counter = 0; field = stuffing (length payload); payload = payload }

-- a section in a packet of its own
abbrev pub section_packet : ℕ → List ℕ → PacketRecord
section_packet pid section = payload_packet pid true (section_payload section)

-- packets that the bytes of a PES packet fill
abbrev pub pes_packet_count : ℕ → ℕ
pes_packet_count size = (size + (PAYLOAD_BYTES - 1)) / PAYLOAD_BYTES

-- the n-th packet of a PES packet; the first one has the start flag
abbrev pub pes_piece : ℕ → List ℕ → ℕ → PacketRecord
pes_piece pid bytes n = payload_packet pid (n == 0) (slice_chunk bytes PAYLOAD_BYTES n)

-- the bytes of a PES packet in transport packets
unfoldable pub pes_packets : ℕ → List ℕ → List PacketRecord
pes_packets pid bytes = map (pes_piece pid bytes) (range_with_len 0 (pes_packet_count (length bytes)))

-- the PCR before picture k, half a second before it is decoded, in a packet of the video's PID without payload
abbrev pub pcr_packet : ℕ → PacketRecord
pcr_packet k = record {
  pid = VIDEO_PID;
  start = false;
  counter = 0;
  field = Some (record { discontinuity = false; pcr = Some (TICKS_PER_TIME_UNIT * (picture_dts k - PCR_LEAD)) });
  payload = [];
}

-- ---- continuity counters (2.4.3.3)

-- how many of these packets are of the PID and have payload
abbrev pub payloads_of : ℕ → List PacketRecord → ℕ
payloads_of pid packets = length (filter (λ packet. (packet.pid == pid) && nat_lt 0 (length packet.payload)) packets)

-- A packet with payload counts those before it; one without payload has the counter of the last with payload, 15 before the first.
abbrev pub counter_behind : List PacketRecord → PacketRecord → ℕ
counter_behind before packet =
    if nat_lt 0 (length packet.payload) then payloads_of packet.pid before % 16 else (payloads_of packet.pid before + 15) % 16

-- packets behind others, with their counters
abbrev pub counted : List PacketRecord → List PacketRecord → List PacketRecord
counted before [] = []
counted before (packet ∷ packets) = record packet { counter = counter_behind before packet } ∷ counted (before ++ packet ∷ []) packets
