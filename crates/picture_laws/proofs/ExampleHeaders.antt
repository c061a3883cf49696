-- Worked examples of headers, computed from the definitions: what stands at each limit, and what is refused past it.
use Rattle.std.proofs.Common.{◌≡◌, ℕ, ◌*◌, Some, None, List, [], ◌∷◌, ◌++◌, drop, map, slice_index, refl, true, false}
use Rattle.std.specs.List.{range_with_len}
use Rattle.bit_lists.specs.Bits.{bits_of}
use Rattle.prefix_codes.specs.Entry.{printed_bits}
use Rattle.quant_math.specs.Matrices.{default_weights}
use Rattle.syntax_types.specs.declared.picture.PicCoding.{PicCoding}
use Rattle.syntax_types.specs.declared.picture.SeqState.{SeqState}
use Rattle.picture_grammar.specs.Refusal.Refusal.{End, BadHeader, Size, Profile, LowDelay}
use Rattle.picture_grammar.specs.Headers.{sequence_header, sequence_extension, picture_header, picture_coding_extension, quant_matrix_extension, in_raster_order}
use Rattle.picture_laws.proofs.Computing.{said, answers}
use Rattle.picture_laws.proofs.DecidedHeads.{decided-sequence_header, decided-sequence_extension, decided-picture_header, decided-picture_coding_extension, decided-quant_matrix_extension}

-- ---- sequence_header(): sizes, rate code, marker and vbv_buffer_size, without matrices

abbrev header : ℕ → ℕ → ℕ → ℕ → ℕ → List ℕ
header width height rate_code marker vbv =
    bits_of 12 width ++ bits_of 12 height ++ bits_of 4 2 ++ bits_of 4 rate_code ++ bits_of 18 37500 ++ bits_of 1 marker ++ bits_of 10 vbv ++ printed_bits "0 0 0"

abbrev state : ℕ → ℕ → ℕ → ℕ → SeqState
state width height rate_code vbv = record {
  width = width;
  height = height;
  rate_code = rate_code;
  vbv = vbv;
  progressive = false;
  intra = default_weights true;
  non_intra = default_weights false;
}

greatest : (sequence_header None).Spells (state 720 576 5 112) (header 720 576 5 1 112) []
unfolding answers
greatest = (said (decided-sequence_header None) (header 720 576 5 1 112) refl).0

least : (sequence_header None).Spells (state 16 16 1 1) (header 16 16 1 1 1) []
unfolding answers
least = (said (decided-sequence_header None) (header 16 16 1 1 1) refl).0

wide : (sequence_header None).Refuses (header 721 576 5 1 112) Size (header 721 576 5 1 112)
unfolding answers
wide = said (decided-sequence_header None) (header 721 576 5 1 112) refl

narrow : (sequence_header None).Refuses (header 15 576 5 1 112) Size (header 15 576 5 1 112)
unfolding answers
narrow = said (decided-sequence_header None) (header 15 576 5 1 112) refl

high : (sequence_header None).Refuses (header 720 577 5 1 112) Size (drop 12 (header 720 577 5 1 112))
unfolding answers
high = said (decided-sequence_header None) (header 720 577 5 1 112) refl

low : (sequence_header None).Refuses (header 720 15 5 1 112) Size (drop 12 (header 720 15 5 1 112))
unfolding answers
low = said (decided-sequence_header None) (header 720 15 5 1 112) refl

fast : (sequence_header None).Refuses (header 720 576 6 1 112) Size (drop 28 (header 720 576 6 1 112))
unfolding answers
fast = said (decided-sequence_header None) (header 720 576 6 1 112) refl

no_rate : (sequence_header None).Refuses (header 720 576 0 1 112) Size (drop 28 (header 720 576 0 1 112))
unfolding answers
no_rate = said (decided-sequence_header None) (header 720 576 0 1 112) refl

no_marker : (sequence_header None).Refuses (header 720 576 5 0 112) BadHeader (drop 50 (header 720 576 5 0 112))
unfolding answers
no_marker = said (decided-sequence_header None) (header 720 576 5 0 112) refl

large_vbv : (sequence_header None).Refuses (header 720 576 5 1 113) BadHeader (drop 51 (header 720 576 5 1 113))
unfolding answers
large_vbv = said (decided-sequence_header None) (header 720 576 5 1 113) refl

no_vbv : (sequence_header None).Refuses (header 720 576 5 1 0) BadHeader (drop 51 (header 720 576 5 1 0))
unfolding answers
no_vbv = said (decided-sequence_header None) (header 720 576 5 1 0) refl

-- a later header repeats the state
repeated_header : (sequence_header (Some (state 720 576 5 112))).Spells (state 720 576 5 112) (header 720 576 5 1 112) []
unfolding answers
repeated_header = (said (decided-sequence_header (Some (state 720 576 5 112))) (header 720 576 5 1 112) refl).0

other_height : (sequence_header (Some (state 720 576 5 112))).Refuses (header 720 480 5 1 112) BadHeader (drop 12 (header 720 480 5 1 112))
unfolding answers
other_height = said (decided-sequence_header (Some (state 720 576 5 112))) (header 720 480 5 1 112) refl

-- a size outside the limits that also differs is Size
high_and_other : (sequence_header (Some (state 720 480 5 112))).Refuses (header 720 577 5 1 112) Size (drop 12 (header 720 577 5 1 112))
unfolding answers
high_and_other = said (decided-sequence_header (Some (state 720 480 5 112))) (header 720 577 5 1 112) refl

-- a matrix entry 0
zero_weight : (sequence_header None).Refuses (bits_of 12 720 ++ bits_of 12 576
    ++ printed_bits "0010 0101 000000000000000000 1 0001110000 0 1 00001000 00000000 1") BadHeader (printed_bits "00000000 1")
unfolding answers
zero_weight = said (decided-sequence_header None) (bits_of 12 720 ++ bits_of 12 576 ++ printed_bits "0010 0101 000000000000000000 1 0001110000 0 1 00001000 00000000 1") refl

-- weights stand in zigzag order: those of the first row and of the first column in raster order
first_row : map (λ i. slice_index (in_raster_order (range_with_len 1 64)) i) (range_with_len 0 8) ≡ 1 ∷ 2 ∷ 6 ∷ 7 ∷ 15 ∷ 16 ∷ 28 ∷ 29 ∷ []
first_row = refl

first_column : map (λ i. slice_index (in_raster_order (range_with_len 1 64)) (8 * i)) (range_with_len 0 8) ≡ 1 ∷ 3 ∷ 4 ∷ 10 ∷ 11 ∷ 21 ∷ 22 ∷ 36 ∷ []
first_column = refl

-- ---- sequence_extension() behind its identifier

progressive_extension : (sequence_extension None).Spells true (printed_bits "01001000 1 01 00 00 000000000000 1 00000000 0 00 00000") []
unfolding answers
progressive_extension = (said (decided-sequence_extension None) (printed_bits "01001000 1 01 00 00 000000000000 1 00000000 0 00 00000") refl).0

-- High profile, 4:2:2, a width of 4096 more, a height of 4096 more, no marker, a greater buffer, low_delay
high_profile : (sequence_extension None).Refuses (printed_bits "00011000 1") Profile (printed_bits "00011000 1")
unfolding answers
high_profile = said (decided-sequence_extension None) (printed_bits "00011000 1") refl

chroma_422 : (sequence_extension None).Refuses (printed_bits "01001000 1 10 0") Profile (printed_bits "10 0")
unfolding answers
chroma_422 = said (decided-sequence_extension None) (printed_bits "01001000 1 10 0") refl

wide_extension : (sequence_extension None).Refuses (printed_bits "01001000 1 01 01 0") Size (printed_bits "01 0")
unfolding answers
wide_extension = said (decided-sequence_extension None) (printed_bits "01001000 1 01 01 0") refl

high_extension : (sequence_extension None).Refuses (printed_bits "01001000 1 01 00 01 0") Size (printed_bits "01 0")
unfolding answers
high_extension = said (decided-sequence_extension None) (printed_bits "01001000 1 01 00 01 0") refl

no_extension_marker : (sequence_extension None).Refuses (printed_bits "01001000 1 01 00 00 000000000000 0 0") BadHeader (printed_bits "0 0")
unfolding answers
no_extension_marker = said (decided-sequence_extension None) (printed_bits "01001000 1 01 00 00 000000000000 0 0") refl

vbv_extension : (sequence_extension None).Refuses (printed_bits "01001000 1 01 00 00 000000000000 1 00000001 0") BadHeader (printed_bits "00000001 0")
unfolding answers
vbv_extension = said (decided-sequence_extension None) (printed_bits "01001000 1 01 00 00 000000000000 1 00000001 0") refl

low_delay : (sequence_extension None).Refuses (printed_bits "01001000 1 01 00 00 000000000000 1 00000000 1 0") LowDelay (printed_bits "1 0")
unfolding answers
low_delay = said (decided-sequence_extension None) (printed_bits "01001000 1 01 00 00 000000000000 1 00000000 1 0") refl

-- ---- picture_header(): B has two old f_codes, and one byte of information stands behind them

b_header : picture_header.Spells (3, 65535) (printed_bits "0000000101 011 1111111111111111 0 111 0 111 1 10101010 0") []
unfolding answers
b_header = (said decided-picture_header (printed_bits "0000000101 011 1111111111111111 0 111 0 111 1 10101010 0") refl).0

d_header : picture_header.Refuses (printed_bits "0000000101 100 1") BadHeader (printed_bits "100 1")
unfolding answers
d_header = said decided-picture_header (printed_bits "0000000101 100 1") refl

-- ---- picture_coding_extension() behind its identifier: type B, f_codes 1 2 3 9, bottom field, each second flag set

abbrev bottom : PicCoding
bottom = record {
  kind = 3;
  vbv_delay = 7;
  f_code = (1 ∷ 2 ∷ []) ∷ (3 ∷ 9 ∷ []) ∷ [];
  dc_precision = 2;
  structure = 2;
  top_field_first = true;
  frame_pred_frame_dct = false;
  concealment = true;
  q_scale_type = false;
  intra_vlc_format = true;
  alternate_scan = false;
  repeat_first_field = true;
  progressive_frame = true;
}

bottom_field : (picture_coding_extension false 3 7).Spells bottom (printed_bits "0001 0010 0011 1001 10 10 1 0 1 0 1 0 1 0 1 1 11111111111111111111") []
unfolding answers
bottom_field = (said (decided-picture_coding_extension false 3 7) (printed_bits "0001 0010 0011 1001 10 10 1 0 1 0 1 0 1 0 1 1 11111111111111111111") refl).0

-- f_codes: 10 and 0 where the type needs them
f_code_10 : (picture_coding_extension false 2 7).Refuses (printed_bits "1001 1010 1111") BadHeader (printed_bits "1010 1111")
unfolding answers
f_code_10 = said (decided-picture_coding_extension false 2 7) (printed_bits "1001 1010 1111") refl

f_code_0 : (picture_coding_extension false 3 7).Refuses (printed_bits "1001 1001 1001 0000 1") BadHeader (printed_bits "0000 1")
unfolding answers
f_code_0 = said (decided-picture_coding_extension false 3 7) (printed_bits "1001 1001 1001 0000 1") refl

-- structure 0, a field in a progressive sequence, frame_pred_frame_dct in a field, concealment without forward f_codes
structure_0 : (picture_coding_extension false 1 7).Refuses (printed_bits "1111 1111 1111 1111 00 00 1") BadHeader (printed_bits "00 1")
unfolding answers
structure_0 = said (decided-picture_coding_extension false 1 7) (printed_bits "1111 1111 1111 1111 00 00 1") refl

progressive_field : (picture_coding_extension true 1 7).Refuses (printed_bits "1111 1111 1111 1111 00 01 1") BadHeader (printed_bits "01 1")
unfolding answers
progressive_field = said (decided-picture_coding_extension true 1 7) (printed_bits "1111 1111 1111 1111 00 01 1") refl

frame_prediction_in_field : (picture_coding_extension false 1 7).Refuses (printed_bits "1111 1111 1111 1111 00 01 1 1 0") BadHeader (printed_bits "1 0")
unfolding answers
frame_prediction_in_field = said (decided-picture_coding_extension false 1 7) (printed_bits "1111 1111 1111 1111 00 01 1 1 0") refl

concealment_in_i : (picture_coding_extension false 1 7).Refuses (printed_bits "1001 1111 1111 1111 00 11 1 1 1 0") BadHeader (printed_bits "1 0")
unfolding answers
concealment_in_i = said (decided-picture_coding_extension false 1 7) (printed_bits "1001 1111 1111 1111 00 11 1 1 1 0") refl

-- ---- quant_matrix_extension() behind its identifier: a matrix for chrominance
chroma_matrix : quant_matrix_extension.Refuses (printed_bits "0 0 0 1") BadHeader (printed_bits "1")
unfolding answers
chroma_matrix = said decided-quant_matrix_extension (printed_bits "0 0 0 1") refl

-- ---- bits that end within a field
cut_vbv : (sequence_header None).Refuses (bits_of 12 720 ++ bits_of 12 576 ++ printed_bits "0010 0101 000000000000000000 1 000111") End (printed_bits "000111")
unfolding answers
cut_vbv = said (decided-sequence_header None) (bits_of 12 720 ++ bits_of 12 576 ++ printed_bits "0010 0101 000000000000000000 1 000111") refl

-- ... and that no width within the limits begins with
cut_width : (sequence_header None).Refuses (printed_bits "11") Size (printed_bits "11")
unfolding answers
cut_width = said (decided-sequence_header None) (printed_bits "11") refl
