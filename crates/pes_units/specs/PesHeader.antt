-- The header of a PES packet (ISO/IEC 13818-1, 2.4.3.6 and 2.4.3.7).
use Rattle.std.specs.Prelude.{◌≡◌, ℕ, ◌+◌, ◌<◌, ◌==◌, nat_eq, nat_le, Bool, true, false, not, ◌&&◌, ◌||◌, IsTrue, List, [], ◌∷◌, length, take, Option, Some, None, is_none, if◌then◌else◌}
use Rattle.std.specs.List.{find, starts_with}
use Rattle.pes_units.specs.declared.pes_fault.PesFault.{PesFault}
use Rattle.pes_units.specs.declared.pes_fault.PesFault.TheVariants.{BadPrefix, Short, Scrambled, BadMarker, BadLength}
use Rattle.pes_units.specs.declared.pes_header.PesHeader.{PesHeader}
use Rattle.bit_lists.specs.Fields.{bits}
use Rattle.pes_units.specs.Times.{pes_header_data_length, HasTimes, are_times_sound, times_of}

-- ---- its elements, each by its first bit and its number of bits

-- 000001 before every PES packet
abbrev pub packet_start_code_prefix : List ℕ → ℕ
packet_start_code_prefix bytes = bits bytes 0 24

-- the kind and the number of the stream
abbrev pub stream_id : List ℕ → ℕ
stream_id bytes = bits bytes 24 8

-- the number of bytes behind this element, or 0 where it isn't stated
abbrev pub pes_packet_length : List ℕ → ℕ
pes_packet_length bytes = bits bytes 32 16

-- the bits `10` that byte 6 begins with
abbrev pub fixed_bits : List ℕ → ℕ
fixed_bits bytes = bits bytes 48 2

-- 0 is not scrambled
abbrev pub pes_scrambling_control : List ℕ → ℕ
pes_scrambling_control bytes = bits bytes 50 2

-- the length of the header in bytes
abbrev pub header_length : List ℕ → ℕ
header_length bytes = 9 + pes_header_data_length bytes

-- the header ends within the bytes
abbrev pub is_header_whole : List ℕ → Bool
is_header_whole bytes = nat_le 9 (length bytes) && nat_le (header_length bytes) (length bytes)

-- E0 to EF are video streams, C0 to DF audio streams (ISO/IEC 13818-1, Table 2-22)
abbrev pub is_stream_id : Bool → ℕ → Bool
is_stream_id true id = nat_le 0xE0 id && nat_le id 0xEF
is_stream_id false id = nat_le 0xC0 id && nat_le id 0xDF

-- ---- what is kept of it

-- what the elements say
abbrev pub pes_fields_of : List ℕ → PesHeader
pes_fields_of bytes = record {
  stream_id = stream_id bytes;
  stated = pes_packet_length bytes;
  times = times_of bytes;
  len = header_length bytes;
}

-- The bytes begin with a header of a video or audio stream and go on behind it, and the header is what is kept of it.
-- What isn't named here may be anything: priority, alignment and copyright, the other flags and what they announce.
pub record IsPesHeader (video : Bool) (header : PesHeader) (bytes : List ℕ) : Type 0 where
  pub prefix : packet_start_code_prefix bytes ≡ 1
  pub kind : IsTrue (is_stream_id video header.stream_id)
  pub stream_id : header.stream_id ≡ stream_id bytes
  pub stated : header.stated ≡ pes_packet_length bytes
  pub fixed : fixed_bits bytes ≡ 2
  pub scrambling : pes_scrambling_control bytes ≡ 0
  pub times : HasTimes header.times.pts header.times.dts bytes
  pub len : header.len ≡ header_length bytes
  pub followed : header.len < length bytes

-- ---- what refuses it

-- those of the first four bytes that stand are those of a start code prefix and a stream id of the kind
abbrev pub has_prefix : Bool → List ℕ → Bool
has_prefix video bytes = starts_with nat_eq (0 ∷ 0 ∷ 1 ∷ []) (take 3 bytes) && (nat_le (length bytes) 3 || is_stream_id video (stream_id bytes))

-- The bytes have a fault: a wrong prefix; no byte behind the header; scrambling; other bits than `10`, or times that don't
-- stand as announced. Bits past the end are 0, so fewer than nine bytes are short too. A bad length is no fault of a header.
abbrev pub has_pes_fault : Bool → List ℕ → PesFault → Bool
has_pes_fault video bytes BadPrefix = not (has_prefix video bytes)
has_pes_fault video bytes Short = nat_le (length bytes) (header_length bytes)
has_pes_fault video bytes Scrambled = not (pes_scrambling_control bytes == 0)
has_pes_fault video bytes BadMarker = not ((fixed_bits bytes == 2) && are_times_sound bytes)
has_pes_fault video bytes BadLength = false

-- the first fault that the bytes have
abbrev pub pes_refusal : Bool → List ℕ → Option PesFault
pes_refusal video bytes = find (has_pes_fault video bytes) (BadPrefix ∷ Short ∷ Scrambled ∷ BadMarker ∷ [])

-- what is kept of bytes that nothing refuses
abbrev pub header_of : Bool → List ℕ → Option PesHeader
header_of video bytes = if is_none (pes_refusal video bytes) then Some (pes_fields_of bytes) else None
