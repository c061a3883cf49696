-- The headers and extensions before a picture's slices (ISO/IEC 13818-2, 6.2.2, 6.2.3 and 6.3.3 to 6.3.11).
use Rattle.std.specs.Prelude.{◌==◌, ◌&&◌, ◌||◌, ℕ, not, nat_le, Option, Some, None, List, [], ◌∷◌, map, slice_index, unwrap_or, position, Bool, true, false}
use Rattle.std.specs.List.{range_with_len}
use Rattle.quant_math.specs.Matrices.{default_weights}
use Rattle.quant_math.specs.Scans.{zigzag_scan}
use Rattle.bit_lists.specs.Fields.{flag}
use Rattle.syntax_types.specs.declared.block.TheConstants.{BLOCK_PLACES}
use Rattle.syntax_types.specs.declared.picture.TheConstants.{I_PICTURE, P_PICTURE, B_PICTURE, FRAME_PICTURE}
use Rattle.syntax_types.specs.declared.picture.PicCoding.{PicCoding}
use Rattle.syntax_types.specs.declared.picture.SeqState.{SeqState}
use Rattle.stream_constants.specs.declared.main_level.TheConstants.{VBV_MOST}
use Rattle.picture_grammar.specs.declared.limits.TheConstants.{WIDTH_LEAST, WIDTH_MOST, HEIGHT_LEAST, HEIGHT_MOST, RATE_CODE_MOST, MAIN_AT_MAIN, CHROMA_420, F_CODE_MOST}
use Rattle.picture_grammar.specs.Refusal.Refusal.{BadHeader, Size, Profile, LowDelay}
use Rattle.picture_grammar.specs.Grammar.{Grammar, done, ◌>>=◌, ◌>>◌, optional, repeated, many}
use Rattle.picture_grammar.specs.Element.{uimsbf, one_flag, flag_where, marker_bit, rule}
use Rattle.picture_grammar.specs.Slice.{extra_information}

-- ---- rules of fields

-- the number has one of these values, the bounds included
abbrev pub is_from_to : ℕ → ℕ → ℕ → Bool
is_from_to least most number = nat_le least number && nat_le number most

-- a later sequence header repeats what the state before says
abbrev pub repeats : Option SeqState → (SeqState → ℕ) → ℕ → Bool
repeats None field number = true
repeats (Some before) field number = number == field before

-- the number is no 0
abbrev pub is_not_zero : ℕ → Bool
is_not_zero number = not (number == 0)

-- ---- quantiser matrices (6.2.2.1, 6.2.3.2, 6.3.11)

-- 64 weights that aren't 0, where the load flag is set
abbrev pub matrix_if_loaded : Grammar (Option (List ℕ))
matrix_if_loaded = do
  load ← one_flag
  optional load (repeated BLOCK_PLACES (uimsbf 8 (rule BadHeader is_not_zero ∷ [])))

-- weights in raster order: they are coded in the order of the zigzag scan (7.3.1)
abbrev pub in_raster_order : List ℕ → List ℕ
in_raster_order weights =
    map (λ index. slice_index weights (unwrap_or (position (λ x. x == index) zigzag_scan) 0)) (range_with_len 0 BLOCK_PLACES)

-- a matrix of the state, where one was loaded
abbrev pub matrix_or : Option (List ℕ) → List ℕ → List ℕ
matrix_or None matrix = matrix
matrix_or (Some weights) matrix = in_raster_order weights

-- ---- sequence_header() (6.2.2.1, 6.3.3) and sequence_extension() (6.2.2.3, 6.3.5)

-- sequence_header() behind its start code. What the extension adds to the sizes is 0 within the limits.
abbrev pub sequence_header : Option SeqState → Grammar SeqState
sequence_header before = do
  width ← uimsbf 12 (rule Size (is_from_to WIDTH_LEAST WIDTH_MOST) ∷ rule BadHeader (repeats before (λ seq. seq.width)) ∷ [])
  height ← uimsbf 12 (rule Size (is_from_to HEIGHT_LEAST HEIGHT_MOST) ∷ rule BadHeader (repeats before (λ seq. seq.height)) ∷ [])
  uimsbf 4 []  -- aspect_ratio_information
  rate_code ← uimsbf 4 (rule Size (is_from_to 1 RATE_CODE_MOST) ∷ rule BadHeader (repeats before (λ seq. seq.rate_code)) ∷ [])
  uimsbf 18 []  -- bit_rate_value
  marker_bit BadHeader
  vbv ← uimsbf 10 (rule BadHeader (is_from_to 1 VBV_MOST) ∷ rule BadHeader (repeats before (λ seq. seq.vbv)) ∷ [])
  one_flag  -- constrained_parameters_flag
  intra ← matrix_if_loaded
  non_intra ← matrix_if_loaded
  done (record {
    width = width;
    height = height;
    rate_code = rate_code;
    vbv = vbv;
    progressive = false;
    intra = matrix_or intra (default_weights true);
    non_intra = matrix_or non_intra (default_weights false);
  })

-- sequence_extension() behind its identifier: progressive_sequence
abbrev pub sequence_extension : Option SeqState → Grammar Bool
sequence_extension before = do
  uimsbf 8 (rule Profile (λ number. number == MAIN_AT_MAIN) ∷ [])
  progressive ← flag_where (rule BadHeader (λ is_set. repeats before (λ seq. flag seq.progressive) (flag is_set)) ∷ [])
  uimsbf 2 (rule Profile (λ number. number == CHROMA_420) ∷ [])
  uimsbf 2 (rule Size (λ number. number == 0) ∷ [])  -- horizontal_size_extension
  uimsbf 2 (rule Size (λ number. number == 0) ∷ [])  -- vertical_size_extension
  uimsbf 12 []  -- bit_rate_extension
  marker_bit BadHeader
  uimsbf 8 (rule BadHeader (λ number. number == 0) ∷ [])  -- vbv_buffer_size_extension
  flag_where (rule LowDelay not ∷ [])
  uimsbf 2 []  -- frame_rate_extension_n
  uimsbf 5 []  -- frame_rate_extension_d
  done progressive

-- ---- group_of_pictures_header() (6.2.2.6)

-- group_of_pictures_header() behind its start code
abbrev pub group_header : Grammar Bool
group_header = do
  uimsbf 25 []  -- time_code
  one_flag  -- closed_gop
  one_flag  -- broken_link

-- ---- picture_header() (6.2.3, 6.3.9) and picture_coding_extension() (6.2.3.1, 6.3.10)

-- full_pel_vector and f_code of MPEG-1, which aren't used
abbrev pub old_f_code : Grammar ℕ
old_f_code = do
  one_flag
  uimsbf 3 []

-- picture_header() behind its start code: picture_coding_type and vbv_delay
abbrev pub picture_header : Grammar (ℕ × ℕ)
picture_header = do
  uimsbf 10 []  -- temporal_reference
  kind ← uimsbf 3 (rule BadHeader (is_from_to I_PICTURE B_PICTURE) ∷ [])
  vbv_delay ← uimsbf 16 []
  optional (kind == P_PICTURE || kind == B_PICTURE) old_f_code
  optional (kind == B_PICTURE) old_f_code
  many extra_information
  done (kind, vbv_delay)

-- an f_code that counts is from 1 to 9 (Table 7-8)
abbrev pub is_f_code : ℕ → Bool
is_f_code number = is_from_to 1 F_CODE_MOST number

-- an f_code, which counts where the type of the picture needs it
abbrev pub f_code : Bool → Grammar ℕ
f_code is_needed = uimsbf 4 (rule BadHeader (λ number. not is_needed || is_f_code number) ∷ [])

-- picture_coding_extension() behind its identifier, by progressive_sequence, picture_coding_type and vbv_delay. A
-- progressive sequence has frame pictures alone, a field picture has frame_pred_frame_dct 0, and the concealment vectors
-- of an I-picture need the forward f_codes.
abbrev pub picture_coding_extension : Bool → ℕ → ℕ → Grammar PicCoding
picture_coding_extension progressive kind vbv_delay = do
  forward_horizontal ← f_code (kind == P_PICTURE || kind == B_PICTURE)
  forward_vertical ← f_code (kind == P_PICTURE || kind == B_PICTURE)
  backward_horizontal ← f_code (kind == B_PICTURE)
  backward_vertical ← f_code (kind == B_PICTURE)
  dc_precision ← uimsbf 2 []
  structure ← uimsbf 2 (rule BadHeader is_not_zero ∷ rule BadHeader (λ number. not progressive || number == FRAME_PICTURE) ∷ [])
  top_field_first ← one_flag
  frame_pred_frame_dct ← flag_where (rule BadHeader (λ is_set. not is_set || structure == FRAME_PICTURE) ∷ [])
  concealment ← flag_where (rule BadHeader (λ is_set. not is_set || (is_f_code forward_horizontal && is_f_code forward_vertical)) ∷ [])
  q_scale_type ← one_flag
  intra_vlc_format ← one_flag
  alternate_scan ← one_flag
  repeat_first_field ← one_flag
  one_flag  -- chroma_420_type
  progressive_frame ← one_flag
  composite ← one_flag
  optional composite (uimsbf 20 [])
  done (record {
    kind = kind;
    vbv_delay = vbv_delay;
    f_code = (forward_horizontal ∷ forward_vertical ∷ []) ∷ (backward_horizontal ∷ backward_vertical ∷ []) ∷ [];
    dc_precision = dc_precision;
    structure = structure;
    top_field_first = top_field_first;
    frame_pred_frame_dct = frame_pred_frame_dct;
    concealment = concealment;
    q_scale_type = q_scale_type;
    intra_vlc_format = intra_vlc_format;
    alternate_scan = alternate_scan;
    repeat_first_field = repeat_first_field;
    progressive_frame = progressive_frame;
  })

-- ---- quant_matrix_extension() (6.2.3.2)

-- the matrices that an extension loads
pub record Loaded : Type 0 where
  pub intra : Option (List ℕ)
  pub non_intra : Option (List ℕ)

-- quant_matrix_extension() behind its identifier: 4:2:0 has no matrices of its own for chrominance
abbrev pub quant_matrix_extension : Grammar Loaded
quant_matrix_extension = do
  intra ← matrix_if_loaded
  non_intra ← matrix_if_loaded
  flag_where (rule BadHeader not ∷ [])  -- load_chroma_intra_quantiser_matrix
  flag_where (rule BadHeader not ∷ [])  -- load_chroma_non_intra_quantiser_matrix
  done (record { intra = intra; non_intra = non_intra })

-- the state with the matrices that were loaded (6.3.11)
abbrev pub with_loaded : SeqState → Loaded → SeqState
with_loaded seq loaded = record seq { intra = matrix_or loaded.intra seq.intra; non_intra = matrix_or loaded.non_intra seq.non_intra }
