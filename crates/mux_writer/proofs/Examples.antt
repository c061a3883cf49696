-- Packets of an output stream, computed from the definitions.
use Rattle.std.proofs.Common.{◌≡◌, ◌==◌, ℕ, false, true, List, [], ◌∷◌, ◌++◌, take, replicate, if◌then◌else◌, refl}
use Rattle.bit_lists.specs.Payload.{Payload}
use Rattle.ts_packets.specs.Packet.{written}
use Rattle.psi_tables.specs.declared.program_map.ProgramMap.{ProgramMap}
use Rattle.psi_tables.specs.declared.stream.Stream.{Stream}
use Rattle.psi_tables.specs.Sections.{crc_over}
use Rattle.slot_rule.specs.declared.sent.Sent.{Sent}
use Rattle.slot_rule.specs.declared.sent.Sent.TheVariants.{Null, Pat, Pmt, Pcr, Video, Audio}
use Rattle.mux_writer.specs.declared.layout.Layout.{Layout}
use Rattle.mux_writer.specs.Output.{null_record, piece_record, packet_in}
use Rattle.mux_writer.specs.Pieces.{Pieces}

-- ---- payloads of 184, 183, 182 and 1 byte

abbrev payload_of : ℕ → Payload
payload_of n = record { start = false; bytes = replicate n 0xAA }

of_184_bytes : written (piece_record 0x101 3 (payload_of 184)) ≡ 0x47 ∷ 0x01 ∷ 0x01 ∷ 0x13 ∷ replicate 184 0xAA
of_184_bytes = refl

-- one byte of stuffing is the field's length alone
of_183_bytes : written (piece_record 0x101 3 (payload_of 183)) ≡ 0x47 ∷ 0x01 ∷ 0x01 ∷ 0x33 ∷ 0x00 ∷ replicate 183 0xAA
of_183_bytes = refl

of_182_bytes : written (piece_record 0x101 3 (payload_of 182)) ≡ 0x47 ∷ 0x01 ∷ 0x01 ∷ 0x33 ∷ 0x01 ∷ 0x00 ∷ replicate 182 0xAA
of_182_bytes = refl

of_1_byte : written (piece_record 0x101 3 (payload_of 1)) ≡ 0x47 ∷ 0x01 ∷ 0x01 ∷ 0x33 ∷ 0xB6 ∷ 0x00 ∷ replicate 181 0xFF ++ 0xAA ∷ []
of_1_byte = refl

where_a_pes_packet_begins : written (piece_record 0x102 0 (record { start = true; bytes = replicate 184 0xAA })) ≡ 0x47 ∷ 0x41 ∷ 0x02 ∷ 0x10 ∷ replicate 184 0xAA
where_a_pes_packet_begins = refl

null_packet : written null_record ≡ 0x47 ∷ 0x1F ∷ 0xFF ∷ 0x10 ∷ replicate 184 0xFF
null_packet = refl

-- ---- two programs, the second with one audio stream: what stands in some slots, and the heads of their packets

abbrev pub stream_of : (kind pid : ℕ) → Stream
stream_of kind pid = record { kind = kind; pid = pid; descriptors = record { items = [] } }

abbrev pub map_of : (number pcr_pid : ℕ) → List Stream → ProgramMap
map_of number pcr_pid streams = record { number = number; pcr_pid = pcr_pid; streams = record { items = streams }; dropped = 0 }

abbrev pub layout : Layout
layout = record {
  stream_id = 1;
  maps = record { items = map_of 2 0x101 (stream_of 2 0x101 ∷ []) ∷ map_of 1 0x111 (stream_of 2 0x111 ∷ stream_of 3 0x112 ∷ []) ∷ [] };
  bases = record { items = 0 ∷ 300 ∷ [] };
}

-- each piece starts a PES packet where its number is 0; pieces are full, but for audio packets with one byte
abbrev pieces : Pieces
pieces stream item piece = record { start = piece == 0; bytes = if stream == 2 then 0xBB ∷ [] else replicate 184 0xAA }

abbrev rows : List Sent
rows = Pat ∷ Pmt 0 ∷ Pmt 1 ∷ Pcr 0 ∷ Pcr 1 ∷ Video 1 0 0 ∷ Video 1 0 1 ∷ Pcr 1 ∷ Audio 2 0 ∷ Null ∷ Video 1 1 0 ∷ Pat ∷ Video 0 0 0 ∷ Audio 2 1 ∷ []

abbrev head_in : ℕ → List ℕ
head_in n = take 6 (written (packet_in layout 1080 pieces rows n))

first_pat : head_in 0 ≡ 0x47 ∷ 0x40 ∷ 0x00 ∷ 0x10 ∷ 0x00 ∷ 0x00 ∷ []
unfolding crc_over
first_pat = refl

map_of_program_1 : head_in 2 ≡ 0x47 ∷ 0x41 ∷ 0x10 ∷ 0x10 ∷ 0x00 ∷ 0x02 ∷ []
unfolding crc_over
map_of_program_1 = refl

-- before the first packet with payload of its PID a PCR packet has the counter 15; the slot's time is on its program's clock
pcr_before_all_payload : take 13 (written (packet_in layout 1080 pieces rows 3)) ≡ 0x47 ∷ 0x01 ∷ 0x01 ∷ 0x2F ∷ 0xB7 ∷ 0x10 ∷ 0x00 ∷ 0x00 ∷ 0x00 ∷ 0x05 ∷ 0x7F ∷ 0x29 ∷ 0xFF ∷ []
pcr_before_all_payload = refl

first_piece : head_in 5 ≡ 0x47 ∷ 0x41 ∷ 0x11 ∷ 0x10 ∷ 0xAA ∷ 0xAA ∷ []
first_piece = refl

second_piece : head_in 6 ≡ 0x47 ∷ 0x01 ∷ 0x11 ∷ 0x11 ∷ 0xAA ∷ 0xAA ∷ []
second_piece = refl

-- it has the counter of the packet before it on its PID
pcr_behind_payload : head_in 7 ≡ 0x47 ∷ 0x01 ∷ 0x11 ∷ 0x21 ∷ 0xB7 ∷ 0x10 ∷ []
pcr_behind_payload = refl

first_audio : head_in 8 ≡ 0x47 ∷ 0x41 ∷ 0x12 ∷ 0x30 ∷ 0xB6 ∷ 0x00 ∷ []
first_audio = refl

-- and the next packet with payload goes on from it
third_piece : head_in 10 ≡ 0x47 ∷ 0x41 ∷ 0x11 ∷ 0x12 ∷ 0xAA ∷ 0xAA ∷ []
third_piece = refl

second_pat : head_in 11 ≡ 0x47 ∷ 0x40 ∷ 0x00 ∷ 0x11 ∷ 0x00 ∷ 0x00 ∷ []
unfolding crc_over
second_pat = refl

of_the_other_program : head_in 12 ≡ 0x47 ∷ 0x41 ∷ 0x01 ∷ 0x10 ∷ 0xAA ∷ 0xAA ∷ []
of_the_other_program = refl

second_audio : head_in 13 ≡ 0x47 ∷ 0x41 ∷ 0x12 ∷ 0x31 ∷ 0xB6 ∷ 0x00 ∷ []
second_audio = refl
