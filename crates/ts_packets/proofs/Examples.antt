-- The worked examples, computed from the definitions.
use Rattle.std.proofs.Common.{◌≡◌, ℕ, false, List, [], ◌∷◌, ◌++◌, length, replicate, Some, None, refl}
use Rattle.ts_packets.specs.declared.packet_fault.PacketFault.TheVariants.{Sync, ErrorFlag, Scrambled, BadField}
use Rattle.bit_lists.specs.Fields.{bit, bits}
use Rattle.ts_packets.specs.Packet.{PacketRecord, transport_refusal, packet_of, written}
use Rattle.ts_packets.specs.Carried.{joined_payload}
use Rattle.ts_packets.specs.TransportStream.{packets, rest_of}

-- ---- a null packet

abbrev null_bytes : List ℕ
null_bytes = 0x47 ∷ 0x1F ∷ 0xFF ∷ 0x10 ∷ replicate 184 0xFF

abbrev null_packet : PacketRecord
null_packet = record { pid = 8191; start = false; counter = 0; field = None; payload = replicate 184 0xFF }

null_packet-read : packet_of null_bytes ≡ Some null_packet
unfolding bit bits
null_packet-read = refl

null_packet-written : written null_packet ≡ null_bytes
null_packet-written = refl

-- ---- a packet with nothing but a PCR

abbrev pcr_bytes : List ℕ
pcr_bytes = 0x47 ∷ 0x01 ∷ 0x01 ∷ 0x2F ∷ 0xB7 ∷ 0x10 ∷ 0x00 ∷ 0x00 ∷ 0x00 ∷ 0x03 ∷ 0xFE ∷ 0x75 ∷ replicate 176 0xFF

abbrev pcr_packet : PacketRecord
pcr_packet = record { pid = 257; start = false; counter = 15; field = Some (record { discontinuity = false; pcr = Some 2217 }); payload = [] }

pcr_packet-read : packet_of pcr_bytes ≡ Some pcr_packet
unfolding bit bits
pcr_packet-read = refl

pcr_packet-written : written pcr_packet ≡ pcr_bytes
pcr_packet-written = refl

-- ---- adaptation fields: the control bits, the field's length and its flags

abbrev framed : ℕ → ℕ → ℕ → List ℕ
framed control length flags = 0x47 ∷ 0x01 ∷ 0x01 ∷ control ∷ length ∷ flags ∷ replicate 182 0x00

control_00 : transport_refusal (framed 0x00 183 0) ≡ Some BadField
unfolding bit bits
control_00 = refl

control_10_with_183 : transport_refusal (framed 0x20 183 0) ≡ None
unfolding bit bits
control_10_with_183 = refl

control_10_with_182 : transport_refusal (framed 0x20 182 0) ≡ Some BadField
unfolding bit bits
control_10_with_182 = refl

control_11_with_182 : transport_refusal (framed 0x30 182 0) ≡ None
unfolding bit bits
control_11_with_182 = refl

control_11_with_183 : transport_refusal (framed 0x30 183 0) ≡ Some BadField
unfolding bit bits
control_11_with_183 = refl

-- what stands in the place of the flags is payload
control_11_with_0 : transport_refusal (framed 0x30 0 0x10) ≡ None
unfolding bit bits
control_11_with_0 = refl

pcr_in_7_bytes : transport_refusal (framed 0x30 7 0x10) ≡ None
unfolding bit bits
pcr_in_7_bytes = refl

pcr_in_6_bytes : transport_refusal (framed 0x30 6 0x10) ≡ Some BadField
unfolding bit bits
pcr_in_6_bytes = refl

-- ---- the first of several faults

all_four : transport_refusal (0x46 ∷ 0x80 ∷ 0x00 ∷ 0xC0 ∷ replicate 184 0x00) ≡ Some Sync
unfolding bit bits
all_four = refl

three : transport_refusal (0x47 ∷ 0x80 ∷ 0x00 ∷ 0xC0 ∷ replicate 184 0x00) ≡ Some ErrorFlag
unfolding bit bits
three = refl

two : transport_refusal (0x47 ∷ 0x00 ∷ 0x00 ∷ 0xC0 ∷ replicate 184 0x00) ≡ Some Scrambled
unfolding bit bits
two = refl

-- ---- a file: a packet that comes twice, one without payload between, and a rest

abbrev file : List ℕ
file = null_bytes ++ pcr_bytes ++ null_bytes ++ (0x47 ∷ 0x1F ∷ [])

file-packets : packets file ≡ Some null_packet ∷ Some pcr_packet ∷ Some null_packet ∷ []
unfolding bit bits
file-packets = refl

file-rest : rest_of file ≡ 0x47 ∷ 0x1F ∷ []
file-rest = refl

file-payload : joined_payload file 8191 ≡ replicate 184 0xFF
unfolding bit bits
file-payload = refl

file-no_payload : joined_payload file 257 ≡ []
unfolding bit bits
file-no_payload = refl
