-- The definitions computed at worked examples.
use Rattle.std.proofs.Common.{◌≡◌, ℕ, true, false, List, [], ◌∷◌, ◌++◌, replicate, Option, Some, None, refl, pos}
use Rattle.bit_lists.specs.Fields.{bit, bits}
use Rattle.audio_frames.specs.declared.pes_start.PesStart.{PesStart}
use Rattle.audio_frames.specs.FrameHeader.{frame_length, is_header, sampling_rate}
use Rattle.audio_frames.specs.Frames.{first_frame, has_low_rate, is_audio_frame, is_rest, goes_on}
use Rattle.audio_frames.specs.Times.{given_time, frame_ticks}

-- ---- headers

-- 192 kbit/s at 48,000 Hz
header_48 : (is_header (0xFF ∷ 0xFD ∷ 0xA4 ∷ 0x00 ∷ []) ≡ true) × (frame_length (0xFF ∷ 0xFD ∷ 0xA4 ∷ 0x00 ∷ []) ≡ 576)
unfolding bit bits
header_48 = (refl, refl)

-- 128 kbit/s at 44,100 Hz, without padding and with it
header_44 : (frame_length (0xFF ∷ 0xFD ∷ 0x80 ∷ 0x00 ∷ []) ≡ 417) × (frame_length (0xFF ∷ 0xFD ∷ 0x82 ∷ 0x00 ∷ []) ≡ 418)
unfolding bit bits
header_44 = (refl, refl)

-- 8 kbit/s at 24,000 Hz
header_24 : (is_header (0xFF ∷ 0xF5 ∷ 0x14 ∷ 0x00 ∷ []) ≡ true) × (frame_length (0xFF ∷ 0xF5 ∷ 0x14 ∷ 0x00 ∷ []) ≡ 48) × (sampling_rate (0xFF ∷ 0xF5 ∷ 0x14 ∷ 0x00 ∷ []) ≡ 24000)
unfolding bit bits
header_24 = (refl, refl, refl)

-- three bytes are none; nor are Layer III, free format, bit rate index 15 and sampling index 3
no_headers : (is_header (0xFF ∷ 0xFD ∷ 0xA4 ∷ []) ≡ false) × (is_header (0xFF ∷ 0xFB ∷ 0xA4 ∷ 0x00 ∷ []) ≡ false)
    × (is_header (0xFF ∷ 0xFD ∷ 0x04 ∷ 0x00 ∷ []) ≡ false) × (is_header (0xFF ∷ 0xFD ∷ 0xF4 ∷ 0x00 ∷ []) ≡ false)
    × (is_header (0xFF ∷ 0xFD ∷ 0xAC ∷ 0x00 ∷ []) ≡ false)
unfolding bit bits
no_headers = (refl, refl, refl, refl, refl)

-- ---- frames of 48 bytes: two bytes before the first one, and a rest of three behind the second

abbrev frame_48 : List ℕ
frame_48 = 0xFF ∷ 0xF5 ∷ 0x14 ∷ 0x00 ∷ replicate 44 0x00

abbrev stream : List ℕ
stream = 0xFF ∷ 0xF5 ∷ (frame_48 ++ frame_48 ++ 0xFF ∷ 0xF5 ∷ 0x14 ∷ [])

stream_first : first_frame stream ≡ Some 2
unfolding bit bits
stream_first = refl

stream_frames : (is_audio_frame stream 2 2 ≡ true) × (is_audio_frame stream 2 50 ≡ true) × (is_rest stream 2 98 ≡ true)
unfolding bit bits
stream_frames = (refl, refl, refl)

-- one frame alone is a first frame where fewer than four bytes follow it, and none where four do that are no header
alone : (first_frame frame_48 ≡ Some 0) × (first_frame (frame_48 ++ 0x00 ∷ 0x00 ∷ 0x00 ∷ []) ≡ Some 0) × (first_frame (frame_48 ++ 0x00 ∷ 0x00 ∷ 0x00 ∷ 0x00 ∷ []) ≡ None)
unfolding bit bits
alone = (refl, refl, refl)

-- a header of another sampling rate doesn't go on, and a cut frame of the same one is a rest
followed : (goes_on (frame_48 ++ 0xFF ∷ 0xF5 ∷ 0x10 ∷ 0x00 ∷ []) 0 48 ≡ false) × (is_rest (frame_48 ++ 0xFF ∷ 0xF5 ∷ 0x14 ∷ 0x00 ∷ []) 0 48 ≡ true)
unfolding bit bits
followed = (refl, refl)

nothing : first_frame [] ≡ None
nothing = refl

-- ---- times: the first packet's belongs to the first frame; the second packet begins within it, and its time belongs to the
-- second frame; without one that frame is 1,152 samples later

abbrev starts : Option ℕ → List PesStart
starts None = record { at = 0; time = Some (pos 90000) } ∷ record { at = 20; time = None } ∷ []
starts (Some time) = record { at = 0; time = Some (pos 90000) } ∷ record { at = 20; time = Some (pos time) } ∷ []

given : (given_time (starts (Some 94321)) (2 ∷ 50 ∷ []) 0 ≡ Some (pos 90000)) × (given_time (starts (Some 94321)) (2 ∷ 50 ∷ []) 1 ≡ Some (pos 94321))
    × (given_time (starts None) (2 ∷ 50 ∷ []) 1 ≡ None)
given = (refl, refl, refl)

-- of two frames that begin in one packet the second is given none
given_once : given_time (record { at = 0; time = Some (pos 90000) } ∷ []) (2 ∷ 50 ∷ []) 1 ≡ None
given_once = refl

-- floors are taken from the given time on: at 44,100 Hz three frames take 2,115,918 ticks, though one takes 705,306
ticks : (frame_ticks 44100 1 ≡ 705306) × (frame_ticks 44100 3 ≡ 2115918) × (frame_ticks 48000 1 ≡ 648000)
ticks = (refl, refl, refl)

-- of 2^38 frames: the product with the ticks of 1,152 seconds has 73 bits
many_ticks : (frame_ticks 44100 274877906944 ≡ 193873070693564081) × (frame_ticks 16000 274877906944 ≡ 534362651099136000)
many_ticks = (refl, refl)

-- a low sampling rate is told by the first frame: 24,000 Hz, and 48,000 Hz at 32 kbit/s; where there is none it isn't said
low_rates : (has_low_rate stream ≡ true) × (has_low_rate (0xFF ∷ 0xFD ∷ 0x14 ∷ 0x00 ∷ replicate 92 0x00) ≡ false) × (has_low_rate [] ≡ false)
unfolding bit bits
low_rates = (refl, refl, refl)
