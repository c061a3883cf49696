-- The header of an audio frame of Layer II (ISO/IEC 11172-3, 2.4.1.3 and 2.4.2.3; ISO/IEC 13818-3, 2.4.2.3 for the low
-- sampling rates, whose ID is 0).
use Rattle.std.specs.Prelude.{ℕ, ◌+◌, ◌-◌, ◌*◌, ◌/◌, ◌==◌, nat_le, Bool, ◌&&◌, List, [], ◌∷◌, length, slice_index, if◌then◌else◌}
use Rattle.bit_lists.specs.Fields.{bits}

-- ---- its elements, each by its first bit and its number of bits

-- twelve ones before every frame
abbrev pub syncword : List ℕ → ℕ
syncword bytes = bits bytes 0 12

-- 1 for sampling rates from 32,000 Hz on, 0 for the low ones
abbrev pub id : List ℕ → ℕ
id bytes = bits bytes 12 1

-- 2 is Layer II
abbrev pub layer : List ℕ → ℕ
layer bytes = bits bytes 13 2

-- the place of the bit rate in its table, from 1 on
abbrev pub bit_rate_index : List ℕ → ℕ
bit_rate_index bytes = bits bytes 16 4

-- the place of the sampling rate in its table, from 0 on
abbrev pub sampling_index : List ℕ → ℕ
sampling_index bytes = bits bytes 20 2

-- 1 for a frame of one byte more
abbrev pub padding_bit : List ℕ → ℕ
padding_bit bytes = bits bytes 22 1

-- ---- what they mean

-- bits per second, in thousands, of the indices 1 to 14 of an ID
abbrev pub kilobits : ℕ → List ℕ
kilobits id =
    if id == 1 then 32 ∷ 48 ∷ 56 ∷ 64 ∷ 80 ∷ 96 ∷ 112 ∷ 128 ∷ 160 ∷ 192 ∷ 224 ∷ 256 ∷ 320 ∷ 384 ∷ []
    else 8 ∷ 16 ∷ 24 ∷ 32 ∷ 40 ∷ 48 ∷ 56 ∷ 64 ∷ 80 ∷ 96 ∷ 112 ∷ 128 ∷ 144 ∷ 160 ∷ []

-- samples per second of the indices 0 to 2 of an ID
abbrev pub hertz : ℕ → List ℕ
hertz id = if id == 1 then 44100 ∷ 48000 ∷ 32000 ∷ [] else 22050 ∷ 24000 ∷ 16000 ∷ []

-- bits per second
abbrev pub bit_rate : List ℕ → ℕ
bit_rate bytes = 1000 * slice_index (kilobits (id bytes)) (bit_rate_index bytes - 1)

-- samples per second
abbrev pub sampling_rate : List ℕ → ℕ
sampling_rate bytes = slice_index (hertz (id bytes)) (sampling_index bytes)

-- bytes of the frame: its 1,152 samples at the bit rate, rounded down, and the padding
abbrev pub frame_length : List ℕ → ℕ
frame_length bytes = 144 * bit_rate bytes / sampling_rate bytes + padding_bit bytes

-- the bytes begin with a header of Layer II, with a bit rate and a sampling rate of the tables
abbrev pub is_header : List ℕ → Bool
is_header bytes =
    nat_le 4 (length bytes) && (syncword bytes == 0xFFF) && (layer bytes == 2) && nat_le 1 (bit_rate_index bytes) && nat_le (bit_rate_index bytes) 14 && nat_le (sampling_index bytes) 2

-- two headers with the same ID and the same sampling rate
abbrev pub is_same_format : List ℕ → List ℕ → Bool
is_same_format first second = (id first == id second) && (sampling_index first == sampling_index second)
