-- vbv_delay in the picture header of a unit (ISO/IEC 13818-2, 6.2.3 and 6.3.9).
use Rattle.std.specs.Prelude.{◌≡◌, ◌⊎◌, ◌+◌, ◌*◌, ◌<◌, ◌≤◌, ℕ, List, drop, length, slice_index}
use Rattle.bit_lists.specs.Fields.{bit, bit_list}
use Rattle.stream_constants.specs.declared.start_codes.TheConstants.{GROUP, PICTURE}
use Rattle.picture_grammar.specs.Refusal.Refusal.{BadHeader}
use Rattle.picture_grammar.specs.Grammar.{Grammar, done, ◌>>=◌, ◌>>◌}
use Rattle.picture_grammar.specs.Headers.{picture_header}
use Rattle.picture_grammar.specs.StartCode.{zero_bits}
use Rattle.stream_constants.specs.declared.start_codes.TheConstants.{START_CODE_BYTES, GROUP_HEADER_BYTES}
use Rattle.picture_grammar.specs.declared.limits.TheConstants.{VBV_DELAY_BITS}
use Rattle.picture_writer.specs.declared.vbv_delay.TheConstants.{DELAY_PLACE}

-- the start code with this last byte stands at a place of the bytes (6.2.1)
pub record CodeStands (byte : ℕ) (bytes : List ℕ) (at : ℕ) : Type 0 where
  pub within : at + START_CODE_BYTES ≤ length bytes
  pub first : slice_index bytes at ≡ 0
  pub second : slice_index bytes (at + 1) ≡ 0
  pub third : slice_index bytes (at + 2) ≡ 1
  pub last : slice_index bytes (at + 3) ≡ byte

-- the place is within the bytes of a group of pictures header, whose time code may look like a start code (6.2.2.6)
pub record IsInGroup (bytes : List ℕ) (at : ℕ) : Type 0 where
  pub group : ℕ
  pub stands : CodeStands GROUP bytes group
  pub behind : group ≤ at
  pub within : at < group + GROUP_HEADER_BYTES

-- the first picture start code that isn't within a group of pictures header
pub record IsPictureCode (bytes : List ℕ) (at : ℕ) : Type 0 where
  pub stands : CodeStands PICTURE bytes at
  pub outside : ¬ IsInGroup bytes at
  pub none_before : (earlier : ℕ) → earlier < at → CodeStands PICTURE bytes earlier → IsInGroup bytes earlier

-- a picture header behind its start code, up to its closing bit 0 and the zero bits to a whole byte behind that (6.2.3)
abbrev pub whole_picture_header : Grammar (ℕ × ℕ)
whole_picture_header = do
  header ← picture_header
  zero_bits BadHeader
  done header

-- the bytes begin with one
abbrev pub BeginsWithHeader : List ℕ → Type 0
BeginsWithHeader bytes = (header : ℕ × ℕ) × (rest : List ℕ) × whole_picture_header.Spells header (bit_list bytes) rest

-- the unit's picture start code stands there, and a whole picture header behind it
pub record HasPictureHeader (unit : List ℕ) (at : ℕ) : Type 0 where
  pub code : IsPictureCode unit at
  pub header : BeginsWithHeader (drop (at + START_CODE_BYTES) unit)

-- the bits of vbv_delay behind a start code are all set, which says that the rate isn't constant, and no other bit changed
pub record SetsDelay (old new : List ℕ) (at : ℕ) : Type 0 where
  pub same_length : length new ≡ length old
  pub set : (i : ℕ) → 8 * (at + START_CODE_BYTES) + DELAY_PLACE ≤ i → i < 8 * (at + START_CODE_BYTES) + DELAY_PLACE + VBV_DELAY_BITS → bit new i ≡ 1
  pub kept : (i : ℕ) → (i < 8 * (at + START_CODE_BYTES) + DELAY_PLACE) ⊎ (8 * (at + START_CODE_BYTES) + DELAY_PLACE + VBV_DELAY_BITS ≤ i) → bit new i ≡ bit old i
