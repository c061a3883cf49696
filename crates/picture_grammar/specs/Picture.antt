-- Units, each a coded picture with its headers, and lawful pictures (ISO/IEC 13818-2, 6.1.2, 6.2.2 and 6.3.3).
use Rattle.std.specs.Prelude.{◌≡◌, ◌≢◌, ◌⊎◌, ◌<◌, ◌≤◌, ◌+◌, ◌-◌, ◌*◌, ◌/◌, ◌^◌, ◌==◌, ◌||◌, ℕ, Option, Some, None, List, [], ◌∷◌, length, replicate, Bool, true, false, if◌then◌else◌}
use Rattle.std.specs.List.{sum_by, flat_map, range_with_len, AllByRecursion}
use Rattle.bit_lists.specs.Fields.{AreBytes, bit_list}
use Rattle.syntax_types.specs.declared.block.TheConstants.{BLOCK_PLACES}
use Rattle.syntax_types.specs.declared.macroblock.Macroblock.{Macroblock}
use Rattle.syntax_types.specs.declared.picture.TheConstants.{I_PICTURE, B_PICTURE, TOP_FIELD, FRAME_PICTURE}
use Rattle.syntax_types.specs.declared.picture.PicCoding.{PicCoding}
use Rattle.syntax_types.specs.declared.picture.Picture.{Picture}
use Rattle.syntax_types.specs.declared.picture.SeqState.{SeqState}
use Rattle.syntax_types.specs.declared.slice.Slice.{Slice}
use Rattle.stream_constants.specs.declared.main_level.TheConstants.{VBV_MOST}
use Rattle.picture_grammar.specs.declared.limits.TheConstants.{WIDTH_LEAST, WIDTH_MOST, HEIGHT_LEAST, HEIGHT_MOST, RATE_CODE_MOST, MACROBLOCK_SIZE, F_CODE_MOST}
use Rattle.stream_constants.specs.declared.start_codes.TheConstants.{FIRST_SLICE, SEQUENCE_END}
use Rattle.picture_grammar.specs.Refusal.{Refusal}
use Rattle.picture_grammar.specs.Refusal.Refusal.{BadHeader, Uncovered}
use Rattle.picture_grammar.specs.Grammar.{Grammar, done, ◌>>=◌, ◌>>◌, optional, if_next, many, Next, with_spelling}
use Rattle.picture_grammar.specs.Grammar.Next.{more, last}
use Rattle.picture_grammar.specs.StartCode.{start_code, zero_bits, only_zero_bytes}
use Rattle.stream_constants.specs.SliceCodes.{is_slice}
use Rattle.picture_grammar.specs.Macroblock.{is_frame, f_codes}
use Rattle.picture_grammar.specs.Slice.{slice, columns}
use Rattle.picture_grammar.specs.Head.{head}

-- ---- a unit

-- a slice behind its start code, up to a whole byte
abbrev pub whole_slice : SeqState → PicCoding → ℕ → Grammar Slice
whole_slice seq coding byte = do
  slice ← slice seq coding (byte - FIRST_SLICE)
  zero_bits BadHeader
  done slice

-- a slice is one more, and none is the sequence end code
abbrev pub slice_or_end : Option Slice → Next Slice Bool
slice_or_end (Some slice) = more slice
slice_or_end None = last true

-- one more slice, or the sequence end code and zero bytes to the unit's end
abbrev pub later_slice : SeqState → PicCoding → Grammar (Next Slice Bool)
later_slice seq coding = do
  byte ← start_code BadHeader (λ byte. is_slice byte || byte == SEQUENCE_END)
  slice ← optional (is_slice byte) (whole_slice seq coding byte)
  optional (byte == SEQUENCE_END) only_zero_bytes
  done (slice_or_end slice)

-- the first slice; behind it another one, the sequence end code, or only zero bytes to the unit's end
abbrev pub next_slice : SeqState → PicCoding → List Slice → Grammar (Next Slice Bool)
next_slice seq coding [] = start_code BadHeader is_slice >>= λ byte. whole_slice seq coding byte >>= λ slice. done (more slice)
next_slice seq coding (s ∷ ss) = if_next (λ bits. bits ≡ replicate (length bits) 0) (only_zero_bytes >> done (last false)) (later_slice seq coding)

-- a coded picture with its headers, behind a sequence state or none
unfoldable pub picture_unit : Option SeqState → Grammar Picture
picture_unit before = do
  headers ← with_spelling (head before)
  slices ← many (next_slice headers.0.0 headers.0.1)
  done (record {
    seq = headers.0.0;
    coding = headers.0.1;
    head = headers.1;
    slices = slices.0;
    sequence_end = slices.1;
  })

-- ---- the macroblocks of a picture (6.1.2)

-- macroblock rows of a field of an interlaced sequence (6.3.3)
abbrev pub field_rows : SeqState → ℕ
field_rows seq = (seq.height + (2 * MACROBLOCK_SIZE - 1)) / (2 * MACROBLOCK_SIZE)

-- macroblock rows of a picture, mb_height (6.3.3): a frame of an interlaced sequence has those of its two fields
abbrev pub rows : SeqState → PicCoding → ℕ
rows seq coding = if is_frame coding
    then (if seq.progressive then (seq.height + (MACROBLOCK_SIZE - 1)) / MACROBLOCK_SIZE else 2 * field_rows seq)
    else field_rows seq

-- the column of the first macroblock of a slice
abbrev pub first_column : List Macroblock → ℕ
first_column [] = 0
first_column (m ∷ ms) = m.skipped_before

-- macroblock_address of each macroblock of a slice, the skipped ones too
abbrev pub addresses : SeqState → Slice → List ℕ
addresses seq slice =
    let first = first_column slice.macroblocks in
    range_with_len (slice.row * columns seq + first) (sum_by (λ m. m.skipped_before + 1) slice.macroblocks - first)

-- the slices hold all macroblocks of the picture in order, each once (6.1.2.2)
abbrev pub IsCovered : Picture → Type 0
IsCovered picture = flat_map (addresses picture.seq) picture.slices ≡ range_with_len 0 (rows picture.seq picture.coding * columns picture.seq)

-- ---- what bytes spell

-- 64 weights of a byte each, none of them 0
abbrev pub AreWeights : List ℕ → Type 0
AreWeights weights = (length weights ≡ BLOCK_PLACES) × AllByRecursion (λ weight. (0 < weight) × (weight < 2 ^ 8)) weights

-- a state that may be in force
pub record IsState (seq : SeqState) : Type 0 where
  pub width : (WIDTH_LEAST ≤ seq.width) × (seq.width ≤ WIDTH_MOST)
  pub height : (HEIGHT_LEAST ≤ seq.height) × (seq.height ≤ HEIGHT_MOST)
  pub rate_code : (1 ≤ seq.rate_code) × (seq.rate_code ≤ RATE_CODE_MOST)
  pub vbv : (1 ≤ seq.vbv) × (seq.vbv ≤ VBV_MOST)
  pub intra : AreWeights seq.intra
  pub non_intra : AreWeights seq.non_intra

-- an f_code that counts (Table 7-8)
abbrev pub IsFCode : ℕ → Type 0
IsFCode number = (1 ≤ number) × (number ≤ F_CODE_MOST)

-- A coding that a picture may have: forward f_codes count but in I-pictures with no concealment vectors, backward ones in
-- B-pictures (6.3.9, 6.3.10).
pub record IsCoding (coding : PicCoding) : Type 0 where
  pub kind : (I_PICTURE ≤ coding.kind) × (coding.kind ≤ B_PICTURE)
  pub vbv_delay : coding.vbv_delay < 2 ^ 16
  pub f_code : (length coding.f_code ≡ 2) × AllByRecursion (λ codes. (length codes ≡ 2) × AllByRecursion (λ number. number < 2 ^ 4) codes) coding.f_code
  pub forward : (coding.kind ≢ I_PICTURE) ⊎ (coding.concealment ≡ true) → AllByRecursion IsFCode (f_codes coding 0)
  pub backward : coding.kind ≡ B_PICTURE → AllByRecursion IsFCode (f_codes coding 1)
  pub dc_precision : coding.dc_precision < 2 ^ 2
  pub structure : (TOP_FIELD ≤ coding.structure) × (coding.structure ≤ FRAME_PICTURE)
  pub frame_pred_frame_dct : coding.frame_pred_frame_dct ≡ true → coding.structure ≡ FRAME_PICTURE

-- a state that may be in force before a unit, or none before the first one
abbrev pub MayPrecede : Option SeqState → Type 0
MayPrecede None = Unit {0}
MayPrecede (Some seq) = IsState seq

-- the bytes of a unit spell the picture
abbrev pub SpellsPicture : Option SeqState → Picture → List ℕ → Type 0
SpellsPicture before picture bytes = (picture_unit before).Spells picture (bit_list bytes) []

-- a picture that some unit spells, behind some state, and whose slices hold all its macroblocks
pub record IsLawful (picture : Picture) : Type 0 where
  pub before : Option SeqState
  pub preceded : MayPrecede before
  pub bytes : List ℕ
  pub are_bytes : AreBytes bytes
  pub spelled : SpellsPicture before picture bytes
  pub covered : IsCovered picture

-- the bytes are refused, at the place of a bit; after the last element because macroblocks are missing or come twice
abbrev pub RefusesPicture : Option SeqState → List ℕ → Refusal → ℕ → Type 0
RefusesPicture before bytes refusal place =
    ((left : List ℕ) × (picture_unit before).Refuses (bit_list bytes) refusal left × (place + length left ≡ length (bit_list bytes)))
    ⊎ ((picture : Picture) × SpellsPicture before picture bytes × (¬ IsCovered picture) × (refusal ≡ Uncovered) × (place ≡ 0))
