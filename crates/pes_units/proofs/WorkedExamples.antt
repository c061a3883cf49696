-- The definitions, computed at worked examples.
use Rattle.std.proofs.Common.{◌≡◌, ℕ, ◌^◌, ◌-◌, Bool, true, false, List, [], ◌∷◌, ◌++◌, Some, None, refl, pos, arith}
use Rattle.std.proofs.lemmas.Int.{ints}
use Rattle.bit_lists.specs.Fields.{bit, bits}
use Rattle.bit_lists.specs.Payload.{CarriedPayload}
use Rattle.pes_units.specs.declared.pes_fault.PesFault.TheVariants.{BadPrefix, Short, Scrambled, BadMarker, BadLength}
use Rattle.pes_units.specs.declared.pes_header.PesHeader.{PesHeader}
use Rattle.pes_units.specs.declared.times.Times.{Times}
use Rattle.pes_units.specs.PesHeader.{header_of, pes_refusal}
use Rattle.pes_units.specs.PesPackets.{gathered, is_dropped, is_length_sound, packet_refusal, last_refusal}
use Rattle.pes_units.specs.Private.PesPackets.{pes_packets}
use Rattle.pes_units.specs.TimeAxis.{IsUnwrapped}
use Rattle.pes_units.specs.VideoHeader.{written_pes_header}

-- ---- a video header with a PTS of 90,000 alone

abbrev only_pts : Times
only_pts = record { pts = Some 90000; dts = None }

abbrev pub only_pts_bytes : List ℕ
only_pts_bytes = 0x00 ∷ 0x00 ∷ 0x01 ∷ 0xE0 ∷ 0x00 ∷ 0x00 ∷ 0x80 ∷ 0x80 ∷ 0x05 ∷ 0x21 ∷ 0x00 ∷ 0x05 ∷ 0xBF ∷ 0x21 ∷ []

only_pts-written : written_pes_header only_pts ≡ only_pts_bytes
only_pts-written = refl

-- a DTS that is the PTS isn't written
equal_times-written : written_pes_header (record { pts = Some 90000; dts = Some 90000 }) ≡ only_pts_bytes
equal_times-written = refl

only_pts-read : header_of true (only_pts_bytes ++ 0xFF ∷ []) ≡ Some (record { stream_id = 0xE0; stated = 0; times = only_pts; len = 14 })
unfolding bit bits
only_pts-read = refl

-- nothing follows it
only_pts-short : pes_refusal true only_pts_bytes ≡ Some Short
unfolding bit bits
only_pts-short = refl

-- an audio stream has other ids
only_pts-audio : pes_refusal false (only_pts_bytes ++ 0xFF ∷ []) ≡ Some BadPrefix
unfolding bit bits
only_pts-audio = refl

-- ---- both times, the greatest of all as the DTS

abbrev both : Times
both = record { pts = Some 90000; dts = Some (2 ^ 33 - 1) }

abbrev both_bytes : List ℕ
both_bytes =
    0x00 ∷ 0x00 ∷ 0x01 ∷ 0xE0 ∷ 0x00 ∷ 0x00 ∷ 0x80 ∷ 0xC0 ∷ 0x0A
    ∷ 0x31 ∷ 0x00 ∷ 0x05 ∷ 0xBF ∷ 0x21 ∷ 0x1F ∷ 0xFF ∷ 0xFF ∷ 0xFF ∷ 0xFF ∷ []

both-written : written_pes_header both ≡ both_bytes
both-written = refl

both-read : header_of true (both_bytes ++ 0xFF ∷ []) ≡ Some (record { stream_id = 0xE0; stated = 0; times = both; len = 19 })
unfolding bit bits
both-read = refl

-- ---- no time

none-written : written_pes_header (record { pts = None; dts = None }) ≡ 0x00 ∷ 0x00 ∷ 0x01 ∷ 0xE0 ∷ 0x00 ∷ 0x00 ∷ 0x80 ∷ 0x00 ∷ 0x00 ∷ []
none-written = refl

-- ---- the first of several faults, of an audio header with these bytes 6 to 8

abbrev audio : ℕ → ℕ → ℕ → List ℕ
audio fixed flags data_length = 0x00 ∷ 0x00 ∷ 0x01 ∷ 0xC0 ∷ 0x00 ∷ 0x00 ∷ fixed ∷ flags ∷ data_length ∷ []

nothing : pes_refusal false [] ≡ Some Short
unfolding bit bits
nothing = refl

two_bytes : pes_refusal false (0x00 ∷ 0x00 ∷ []) ≡ Some Short
unfolding bit bits
two_bytes = refl

bad_second_byte : pes_refusal false (0x00 ∷ 0x01 ∷ []) ≡ Some BadPrefix
unfolding bit bits
bad_second_byte = refl

nine_bytes_without_fixed_bits : pes_refusal false (audio 0x00 0x00 0x00) ≡ Some Short
unfolding bit bits
nine_bytes_without_fixed_bits = refl

past_the_packet : pes_refusal false (audio 0x30 0x40 0x02 ++ 0xFF ∷ 0xFF ∷ []) ≡ Some Short
unfolding bit bits
past_the_packet = refl

scrambled_without_fixed_bits : pes_refusal false (audio 0x30 0x40 0x00 ++ 0xFF ∷ []) ≡ Some Scrambled
unfolding bit bits
scrambled_without_fixed_bits = refl

without_fixed_bits : pes_refusal false (audio 0x40 0x00 0x00 ++ 0xFF ∷ []) ≡ Some BadMarker
unfolding bit bits
without_fixed_bits = refl

flags_01 : pes_refusal false (audio 0x80 0x40 0x05 ++ 0x21 ∷ 0x00 ∷ 0x05 ∷ 0xBF ∷ 0x21 ∷ 0xFF ∷ []) ≡ Some BadMarker
unfolding bit bits
flags_01 = refl

too_short_for_a_time : pes_refusal false (audio 0x80 0x80 0x04 ++ 0x21 ∷ 0x00 ∷ 0x05 ∷ 0xBF ∷ 0x21 ∷ 0xFF ∷ []) ≡ Some BadMarker
unfolding bit bits
too_short_for_a_time = refl

last_marker_0 : pes_refusal false (audio 0x80 0x80 0x05 ++ 0x21 ∷ 0x00 ∷ 0x05 ∷ 0xBF ∷ 0x20 ∷ 0xFF ∷ []) ≡ Some BadMarker
unfolding bit bits
last_marker_0 = refl

-- the four bits before a time may be anything
any_bits_before_a_time : pes_refusal false (audio 0x80 0x80 0x05 ++ 0xF1 ∷ 0x00 ∷ 0x05 ∷ 0xBF ∷ 0x21 ∷ 0xFF ∷ []) ≡ None
unfolding bit bits
any_bits_before_a_time = refl

-- ---- PES packets of a PID: bytes before the first start, two packets in five pieces

abbrev no_time : ℕ → PesHeader
no_time stated = record { stream_id = 0xC0; stated = stated; times = record { pts = None; dts = None }; len = 9 }

abbrev stating : ℕ → List ℕ
stating n = 0x00 ∷ 0x00 ∷ 0x01 ∷ 0xC0 ∷ 0x00 ∷ n ∷ 0x80 ∷ 0x00 ∷ 0x00 ∷ []

abbrev carried : ℕ → Bool → List ℕ → CarriedPayload
carried at start bytes = record { at = at; payload = record { start = start; bytes = bytes } }

abbrev pieces : List CarriedPayload
pieces =
    carried 188 false (7 ∷ 7 ∷ [])
    ∷ carried 376 true (stating 5 ++ 1 ∷ [])
    ∷ carried 752 false (2 ∷ [])
    ∷ carried 940 true (0x00 ∷ 0x00 ∷ 0x01 ∷ [])
    ∷ carried 1128 false (0xC0 ∷ 0x00 ∷ 6 ∷ 0x80 ∷ 0x00 ∷ 0x00 ∷ 3 ∷ [])
    ∷ []

pieces-gathered : gathered pieces ≡ record { at = 376; bytes = stating 5 ++ 1 ∷ 2 ∷ [] } ∷ record { at = 940; bytes = stating 6 ++ 3 ∷ [] } ∷ []
pieces-gathered = refl

-- a start flag without payload means nothing
empty_start : gathered (carried 0 true (1 ∷ []) ∷ carried 188 true [] ∷ carried 376 false (2 ∷ []) ∷ []) ≡ record { at = 0; bytes = 1 ∷ 2 ∷ [] } ∷ []
empty_start = refl

-- the last one states two bytes of payload and has one, so it is cut
pieces-packets : pes_packets false (gathered pieces) ≡ record { header = no_time 5; payload = 1 ∷ 2 ∷ [] } ∷ []
unfolding bit bits
pieces-packets = refl

cut_video : pes_packets true (record { at = 0; bytes = only_pts_bytes } ∷ []) ≡ record { header = record { stream_id = 0xE0; stated = 0; times = only_pts; len = 14 }; payload = [] } ∷ []
unfolding bit bits
cut_video = refl

cut_video-refusal : last_refusal true only_pts_bytes ≡ None
unfolding bit bits
cut_video-refusal = refl

-- the header ends behind the bytes, so that it is short is no fault there, and neither is what stands behind the prefix
cut_header-refusal : last_refusal true (0x00 ∷ 0x00 ∷ 0x01 ∷ 0xE0 ∷ 0x00 ∷ 0x00 ∷ 0x30 ∷ []) ≡ None
unfolding bit bits
cut_header-refusal = refl

cut_header : is_dropped true (0x00 ∷ 0x00 ∷ 0x01 ∷ 0xE0 ∷ 0x00 ∷ 0x00 ∷ 0x30 ∷ []) ≡ true
unfolding bit bits
cut_header = refl

-- a whole header is looked at, also where the packet is cut
cut_and_scrambled : last_refusal true (0x00 ∷ 0x00 ∷ 0x01 ∷ 0xE0 ∷ 0x00 ∷ 0x00 ∷ 0x90 ∷ 0x00 ∷ 0x00 ∷ []) ≡ Some Scrambled
unfolding bit bits
cut_and_scrambled = refl

-- a last packet that isn't cut is refused as every other is
whole_and_short : last_refusal false (stating 3) ≡ Some Short
unfolding bit bits
whole_and_short = refl

audio_without_length : is_length_sound false (stating 0 ++ 1 ∷ []) ≡ false
unfolding bit bits
audio_without_length = refl

-- a packet that is longer than it states, and an audio packet that states nothing
longer_than_stated : packet_refusal false (stating 4 ++ 1 ∷ 2 ∷ []) ≡ Some BadLength
unfolding bit bits
longer_than_stated = refl

nothing_stated : packet_refusal false (stating 0 ++ 1 ∷ []) ≡ Some BadLength
unfolding bit bits
nothing_stated = refl

as_long_as_stated : packet_refusal false (stating 4 ++ 1 ∷ []) ≡ None
unfolding bit bits
as_long_as_stated = refl

-- ---- times on one axis

past_the_cycle : IsUnwrapped (pos 8589930992) 0 (pos 8589934592)
past_the_cycle = record { congruent = (pos 1, refl); not_too_early = omega (arith, ints); not_too_late = omega (arith, ints) }
