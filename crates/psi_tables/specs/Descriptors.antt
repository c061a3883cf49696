-- Descriptors (ISO/IEC 13818-1, 2.6.1). A descriptor is kept as its own bytes.
use Rattle.std.specs.Prelude.{◌≡◌, ℕ, ◌+◌, ◌==◌, Bool, not, ◌||◌, List, length, count_by}
use Rattle.std.specs.List.{filter, concat}
use Rattle.bit_lists.specs.Fields.{bits}

-- the kind of a descriptor, its first byte
abbrev pub descriptor_tag : List ℕ → ℕ
descriptor_tag bytes = bits bytes 0 8

-- the number of bytes behind its first two
abbrev pub descriptor_length : List ℕ → ℕ
descriptor_length bytes = bits bytes 8 8

-- its tag, its length, and so many bytes behind them
pub record IsDescriptor (descriptor bytes : List ℕ) : Type 0 where
  pub bytes_are : descriptor ≡ bytes
  pub size : length bytes ≡ 2 + descriptor_length bytes

-- video_stream_descriptor, audio_stream_descriptor and ISO_639_language_descriptor (2.6.2, 2.6.4, 2.6.18)
abbrev pub is_tag_kept : ℕ → Bool
is_tag_kept tag = (tag == 2) || (tag == 3) || (tag == 10)

-- a descriptor with a kept tag
abbrev pub is_kept : List ℕ → Bool
is_kept descriptor = is_tag_kept (descriptor_tag descriptor)

-- the bytes of those that are kept
abbrev pub kept_bytes : List (List ℕ) → List ℕ
kept_bytes descriptors = concat (filter is_kept descriptors)

-- how many aren't kept
abbrev pub count_dropped : List (List ℕ) → ℕ
count_dropped descriptors = count_by (λ descriptor. not (is_kept descriptor)) descriptors
