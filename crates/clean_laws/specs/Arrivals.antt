-- What the packets of a stream bring to a decoder (ISO/IEC 13818-1, 2.4.2 and 2.4.3), read from the packets alone.
use Rattle.std.specs.Prelude.{ℕ, ◌+◌, ◌==◌, min, Bool, ◌||◌, List, [], ◌∷◌, ◌++◌, length, if◌then◌else◌}
use Rattle.bit_lists.specs.Payload.{Payload}
use Rattle.pes_units.specs.PesHeader.{header_length}
use Rattle.ts_packets.specs.Packet.{PacketRecord}
use Rattle.ts_packets.specs.Carried.{payload_of}
use Rattle.tstd_model.specs.declared.decoder_input.Arrival.{Arrival}
use Rattle.mux_writer.specs.declared.packets.TheConstants.{PAT_PID}

-- ---- what packets carry

-- how many bytes of PES header a payload begins with: none but where a PES packet begins, and there as many as its ninth byte says, as far as
-- the payload goes (2.4.3.6); what a header has left for the next payload counts as data there
abbrev pub header_bytes : Payload → ℕ
header_bytes payload = if payload.start then min (header_length payload.bytes) (length payload.bytes) else 0

-- ---- what comes to a decoder

-- the packet that stands in the slot of this number, where a decoder gets it: its payload, so many bytes of which are PES header
abbrev pub arrival_of : (taken : Bool) → (slot_no header : ℕ) → PacketRecord → List Arrival
arrival_of taken slot_no header packet = if taken then record { slot_no = slot_no; header = header; payload = length packet.payload } ∷ [] else []

-- what comes of packets one after another, the first of which stands in the slot of this number, where a decoder gets those that pass a test
abbrev pub arrivals_of : (test : PacketRecord → Bool) → (header : PacketRecord → ℕ) → (slot_no : ℕ) → List PacketRecord → List Arrival
arrivals_of test header slot_no [] = []
arrivals_of test header slot_no (packet ∷ packets) = arrival_of (test packet) slot_no (header packet) packet ++ arrivals_of test header (slot_no + 1) packets

-- to the decoder of an elementary stream come the packets of its PID, those without payload too
abbrev pub arrivals_on : (pid : ℕ) → List PacketRecord → List Arrival
arrivals_on pid packets = arrivals_of (λ packet. packet.pid == pid) (λ packet. header_bytes (payload_of packet)) 0 packets

-- to the decoder of a program's sections come the packets of the PAT and of the program's map, which have no PES headers
abbrev pub section_arrivals : (map_pid : ℕ) → List PacketRecord → List Arrival
section_arrivals map_pid packets = arrivals_of (λ packet. (packet.pid == PAT_PID) || (packet.pid == map_pid)) (λ packet. 0) 0 packets
