-- Worked examples of the definitions.
use Rattle.std.proofs.Common.{◌≡◌, true, false, List, [], ◌∷◌, None, refl}
use Rattle.bit_lists.specs.Fields.{bit, bits}
use Rattle.ts_packets.specs.Packet.{PacketRecord}
use Rattle.ts_packets.specs.Carried.{payload_of, payloads_on}
use Rattle.clean_laws.specs.Arrivals.{arrivals_on, header_bytes, section_arrivals}

-- a PES packet of a video with a PTS begins here: nine bytes, the ninth of which says that five more belong to the header, and two bytes of data
abbrev begins : PacketRecord
begins = record {
  pid = 0x101;
  start = true;
  counter = 0;
  field = None;
  payload = 0x00 ∷ 0x00 ∷ 0x01 ∷ 0xE0 ∷ 0x00 ∷ 0x00 ∷ 0x80 ∷ 0x80 ∷ 0x05 ∷ 0x21 ∷ 0x00 ∷ 0x01 ∷ 0x00 ∷ 0x01 ∷ 0x00 ∷ 0x00 ∷ [];
}

-- it goes on here
abbrev goes_on : PacketRecord
goes_on = record { pid = 0x101; start = false; counter = 1; field = None; payload = 0x00 ∷ 0x00 ∷ 0x01 ∷ [] }

-- a packet of the PID without payload, whose start flag means nothing
abbrev without : PacketRecord
without = record { pid = 0x101; start = true; counter = 1; field = None; payload = [] }

-- a PES packet of audio whose header says that it is longer than the payload
abbrev long_header : PacketRecord
long_header = record { pid = 0x102; start = true; counter = 0; field = None; payload = 0x00 ∷ 0x00 ∷ 0x01 ∷ 0xC0 ∷ 0x00 ∷ 0x00 ∷ 0x80 ∷ 0x80 ∷ 0xC8 ∷ 0x21 ∷ [] }

-- packets of sections, with no more than a byte each
abbrev pat : PacketRecord
pat = record { pid = 0; start = true; counter = 0; field = None; payload = 0x00 ∷ [] }

abbrev first_map : PacketRecord
first_map = record { pid = 0x100; start = true; counter = 0; field = None; payload = 0x00 ∷ [] }

abbrev second_map : PacketRecord
second_map = record { pid = 0x110; start = true; counter = 0; field = None; payload = 0x00 ∷ [] }

-- slots 0 to 6
abbrev stream : List PacketRecord
stream = pat ∷ first_map ∷ second_map ∷ begins ∷ long_header ∷ without ∷ goes_on ∷ []

header_example : header_bytes (payload_of begins) ≡ 14
unfolding bit bits
header_example = refl

-- bytes that go on a PES packet have no header, whatever they look like
later_example : header_bytes (payload_of goes_on) ≡ 0
later_example = refl

long_example : header_bytes (payload_of long_header) ≡ 10
unfolding bit bits
long_example = refl

-- the video's packets stand in slots 3, 5 and 6, with others between them; the one without payload comes to TB alone
video_example : arrivals_on 0x101 stream
    ≡ record { slot_no = 3; header = 14; payload = 16 } ∷ record { slot_no = 5; header = 0; payload = 0 } ∷ record { slot_no = 6; header = 0; payload = 3 } ∷ []
unfolding bit bits
video_example = refl

audio_example : arrivals_on 0x102 stream ≡ record { slot_no = 4; header = 10; payload = 10 } ∷ []
unfolding bit bits
audio_example = refl

payloads_example : payloads_on 0x101 stream ≡ payload_of begins ∷ payload_of goes_on ∷ []
payloads_example = refl

-- the decoder of the second program's sections has the PAT and the second map
sections_example : section_arrivals 0x110 stream ≡ record { slot_no = 0; header = 0; payload = 1 } ∷ record { slot_no = 2; header = 0; payload = 1 } ∷ []
sections_example = refl
