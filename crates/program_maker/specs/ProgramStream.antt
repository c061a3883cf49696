-- The packets of a program as a program stream (ISO/IEC 13818-1, 2.5.3).
use Rattle.std.specs.Prelude.{ℕ, ◌-◌, nat_le, List, [], ◌∷◌, ◌++◌, length, take, drop, if◌then◌else◌}
use Rattle.std.specs.List.{flat_map}
use Rattle.std.specs.Int.{w16, to_be_bytes}
use Rattle.ts_demux.specs.declared.demuxed.AudioStream.{AudioStream}
use Rattle.ts_demux.specs.declared.demuxed.Demuxed.{Demuxed}
use Rattle.ts_demux.specs.declared.demuxed.PesUnit.{PesUnit}

-- the length of a packet of so many bytes, those behind it; 0 where two bytes can't say it
abbrev pub stated_length : ℕ → ℕ
stated_length bytes = if nat_le (bytes - 6) 65535 then bytes - 6 else 0

-- a PES packet as an element, its length stated in its fifth and sixth byte
abbrev pub as_element : List ℕ → List ℕ
as_element pes = take 4 pes ++ (to_be_bytes w16 (stated_length (length pes)) ++ drop 6 pes)

-- the same of a packet with its place
abbrev pub packet_element : PesUnit → List ℕ
packet_element packet = as_element packet.bytes

-- those of an audio stream
abbrev pub audio_elements : AudioStream → List ℕ
audio_elements audio = flat_map packet_element audio.units

-- A pack header (2.5.3.3): `01`, clock reference 0 with its marker bits, extension 0, a rate of 1 in units of 50 bytes a second, no stuffing.
abbrev pub pack_header : List ℕ
pack_header = 0 ∷ 0 ∷ 1 ∷ 0xBA ∷ 0x44 ∷ 0x00 ∷ 0x04 ∷ 0x00 ∷ 0x04 ∷ 0x01 ∷ 0x00 ∷ 0x00 ∷ 0x07 ∷ 0xF8 ∷ []

-- one pack header, then the packets stream by stream
abbrev pub program_stream_of : Demuxed → List ℕ
program_stream_of demuxed = pack_header ++ (flat_map packet_element demuxed.video ++ flat_map audio_elements demuxed.audios)
