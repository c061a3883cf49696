-- The walk over a head from one start code to the next.
use Rattle.std.specs.Prelude.{◌≡◌, ◌≢◌, ◌⊎◌, ◌+◌, ◌%◌, ◌*◌, ◌^◌, ◌<◌, ◌≤◌, ℕ, zero, suc, List, ◌++◌, length, slice_index, slice_set, bit_or}
use Rattle.stream_constants.specs.declared.start_codes.TheConstants.{PICTURE, GROUP}
use Rattle.picture_grammar.specs.StartCode.{start_code_prefix, start_code_bits}
use Rattle.picture_heads.specs.declared.place.TheConstants.{GROUP_BYTES}

-- the first start code at a whole byte of these bits has this last byte, and these bits behind it
pub record IsFirstCode (bits : List ℕ) (byte : ℕ) (behind : List ℕ) : Type 0 where
  pub front : List ℕ
  pub split : bits ≡ front ++ start_code_bits byte ++ behind
  pub is_byte : byte < 2 ^ 8
  pub whole : length behind % 8 ≡ 0
  pub first : (before after : List ℕ) → bits ≡ before ++ start_code_prefix ++ after → length after % 8 ≡ 0 → length front ≤ length before

-- the walk goes on behind a start code, but for that of a group of pictures, whose header it skips
pub record GoesOn (byte : ℕ) (behind later : List ℕ) : Type 0 where
  pub no_picture : byte ≢ PICTURE
  pub goes : ((byte ≢ GROUP) × (later ≡ behind)) ⊎ ((byte ≡ GROUP) × (header : List ℕ) × (behind ≡ header ++ later) × (length header ≡ 8 * GROUP_BYTES))

-- behind so many start codes the walk comes to the picture's, and these bits stand behind that
abbrev pub LeadsIn : ℕ → List ℕ → List ℕ → Type 0
LeadsIn zero bits rest = IsFirstCode bits PICTURE rest
LeadsIn (suc n) bits rest = (byte : ℕ) × (behind : List ℕ) × (later : List ℕ) × IsFirstCode bits byte behind × GoesOn byte behind later × LeadsIn n later rest

-- the bytes with ones in the 16 bits of vbv_delay, 13 bits behind the place
abbrev pub with_ones : List ℕ → ℕ → List ℕ
with_ones bytes at =
    slice_set (slice_set (slice_set bytes (at + 1) (bit_or (slice_index bytes (at + 1)) 0b00000111)) (at + 2) 255) (at + 3) (bit_or (slice_index bytes (at + 3)) 0b11111000)
