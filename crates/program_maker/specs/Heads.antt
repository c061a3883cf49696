-- What stands before the slices of a generated picture (ISO/IEC 13818-2, 6.2.2 and 6.2.3).
use Rattle.std.specs.Prelude.{ℕ, ◌+◌, ◌-◌, ◌*◌, ◌%◌, ◌^◌, ◌==◌, Bool, true, false, not, List, [], ◌∷◌, ◌++◌, drop, slice_index, if◌then◌else◌}
use Rattle.std.specs.Int.{w64, to_be_bytes}
use Rattle.stream_constants.specs.declared.start_codes.TheConstants.{PICTURE, SEQUENCE_HEADER, EXTENSION, GROUP, SEQUENCE_EXTENSION, PICTURE_CODING}
use Rattle.bit_lists.specs.Fields.{flag}
use Rattle.quant_math.specs.Matrices.{default_weights}
use Rattle.syntax_types.specs.declared.picture.TheConstants.{I_PICTURE, P_PICTURE, FRAME_PICTURE}
use Rattle.syntax_types.specs.declared.picture.PicCoding.{PicCoding}
use Rattle.syntax_types.specs.declared.picture.SeqState.{SeqState}
use Rattle.picture_grammar.specs.Macroblock.{f_codes}
use Rattle.program_maker.specs.declared.format.TheConstants.{WIDTH, HEIGHT, RATE_CODE, VBV, GROUP_PICTURES}

-- ---- the states

-- what the sequence header leaves in force: default matrices, progressive
abbrev pub sequence_state : SeqState
sequence_state = record {
  width = WIDTH;
  height = HEIGHT;
  rate_code = RATE_CODE;
  vbv = VBV;
  progressive = true;
  intra = default_weights true;
  non_intra = default_weights false;
}

-- an f_code for both parts of a vector
abbrev pub both : ℕ → List ℕ
both number = number ∷ number ∷ []

-- a P-picture with forward f_codes 1, or an I-picture; f_codes that don't count are 15
abbrev pub coding_of : Bool → PicCoding
coding_of predicted = record {
  kind = if predicted then P_PICTURE else I_PICTURE;
  vbv_delay = 0xFFFF;
  f_code = both (if predicted then 1 else 15) ∷ both 15 ∷ [];
  dc_precision = 0;
  structure = FRAME_PICTURE;
  top_field_first = false;
  frame_pred_frame_dct = true;
  concealment = false;
  q_scale_type = false;
  intra_vlc_format = false;
  alternate_scan = false;
  repeat_first_field = false;
  progressive_frame = true;
}

-- the first picture of each group is an I-picture, the others are P-pictures
abbrev pub is_predicted : ℕ → Bool
is_predicted k = not (k % GROUP_PICTURES == 0)

-- temporal_reference: a picture's place in its group
abbrev pub temporal_reference : ℕ → ℕ
temporal_reference k = k % GROUP_PICTURES

-- ---- headers

-- fields behind a number, each of so many bits with a value, as one number
abbrev pub fields_behind : ℕ → List (ℕ × ℕ) → ℕ
fields_behind number [] = number
fields_behind number (field ∷ fields) = fields_behind (number * 2 ^ field.0 + field.1) fields

-- a start code, and the fields behind it, which fill so many bytes
abbrev pub header : ℕ → ℕ → List (ℕ × ℕ) → List ℕ
header code size fields = 0 ∷ 0 ∷ 1 ∷ code ∷ drop (8 - size) (to_be_bytes w64 (fields_behind 0 fields))

-- sequence_header() (6.2.2.1): size, aspect ratio 4:3, 15 Mbit/s in units of 400 bit/s, marker, vbv, constrained and load flags 0
abbrev pub generated_sequence_header : List ℕ
generated_sequence_header = header SEQUENCE_HEADER 8
    ((12, WIDTH) ∷ (12, HEIGHT) ∷ (4, 2) ∷ (4, RATE_CODE) ∷ (18, 37500) ∷ (1, 1) ∷ (10, VBV) ∷ (1, 0) ∷ (1, 0) ∷ (1, 0) ∷ [])

-- sequence_extension() (6.2.2.3): Main profile at Main level, progressive, 4:2:0, no more bits of sizes and rates, marker, low_delay 0
abbrev pub generated_sequence_extension : List ℕ
generated_sequence_extension = header EXTENSION 6
    ((4, SEQUENCE_EXTENSION) ∷ (8, 0x48) ∷ (1, 1) ∷ (2, 1) ∷ (2, 0) ∷ (2, 0) ∷ (12, 0) ∷ (1, 1) ∷ (8, 0) ∷ (1, 0) ∷ (2, 0) ∷ (5, 0) ∷ [])

-- group_of_pictures_header() (6.2.2.6): time code 0 with its marker, closed_gop, not broken
abbrev pub generated_group_header : List ℕ
generated_group_header = header GROUP 4 ((25, 0x001000) ∷ (1, 1) ∷ (1, 0) ∷ (5, 0) ∷ [])

-- picture_header() (6.2.3): in P-pictures full_pel_forward_vector 0 and forward_f_code 7; extra_bit_picture 0, zero bits
abbrev pub generated_picture_header : Bool → ℕ → List ℕ
generated_picture_header false reference = header PICTURE 4 ((10, reference) ∷ (3, I_PICTURE) ∷ (16, 0xFFFF) ∷ (1, 0) ∷ (2, 0) ∷ [])
generated_picture_header true reference = header PICTURE 5 ((10, reference) ∷ (3, P_PICTURE) ∷ (16, 0xFFFF) ∷ (1, 0) ∷ (3, 7) ∷ (1, 0) ∷ (6, 0) ∷ [])

-- an f_code of a coding, forward 0 or backward 1, horizontal 0 or vertical 1
abbrev pub f_code_at : PicCoding → ℕ → ℕ → ℕ
f_code_at coding direction part = slice_index (f_codes coding direction) part

-- picture_coding_extension() (6.2.3.1), with chroma_420_type 1 and composite_display_flag 0, and zero bits
abbrev pub generated_picture_coding_extension : PicCoding → List ℕ
generated_picture_coding_extension coding = header EXTENSION 5
    ((4, PICTURE_CODING) ∷ (4, f_code_at coding 0 0) ∷ (4, f_code_at coding 0 1) ∷ (4, f_code_at coding 1 0) ∷ (4, f_code_at coding 1 1)
    ∷ (2, coding.dc_precision) ∷ (2, coding.structure) ∷ (1, flag coding.top_field_first) ∷ (1, flag coding.frame_pred_frame_dct)
    ∷ (1, flag coding.concealment) ∷ (1, flag coding.q_scale_type) ∷ (1, flag coding.intra_vlc_format) ∷ (1, flag coding.alternate_scan)
    ∷ (1, flag coding.repeat_first_field) ∷ (1, 1) ∷ (1, flag coding.progressive_frame) ∷ (1, 0) ∷ (6, 0) ∷ [])

-- what stands before an I-picture: a sequence and a group begin
abbrev pub headers_before : Bool → List ℕ
headers_before true = []
headers_before false = generated_sequence_header ++ generated_sequence_extension ++ generated_group_header

-- the head of picture k
unfoldable pub head_of : ℕ → List ℕ
head_of k = headers_before (is_predicted k) ++ generated_picture_header (is_predicted k) (temporal_reference k) ++ generated_picture_coding_extension (coding_of (is_predicted k))
