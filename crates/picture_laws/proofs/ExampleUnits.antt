-- Worked examples of heads and units, computed from the definitions.
use Rattle.std.proofs.Common.{◌≡◌, ℕ, None, List, [], ◌∷◌, ◌++◌, length, replicate, refl, ap, true, false, inr, arith}
use Rattle.bit_lists.specs.Fields.{bit_list}
use Rattle.bit_lists.proofs.NumberLemmas.{AreBits-bit_list}
use Rattle.quant_math.specs.Matrices.{default_weights}
use Rattle.syntax_types.specs.declared.macroblock.Macroblock.{Macroblock}
use Rattle.syntax_types.specs.declared.picture.PicCoding.{PicCoding}
use Rattle.syntax_types.specs.declared.picture.Picture.{Picture}
use Rattle.syntax_types.specs.declared.picture.SeqState.{SeqState}
use Rattle.picture_grammar.specs.Refusal.Refusal.{BadHeader, NotMpeg2, Uncovered}
use Rattle.picture_grammar.specs.Head.{head}
use Rattle.picture_grammar.specs.Picture.{rows, IsCovered, SpellsPicture, RefusesPicture}
use Rattle.picture_grammar.specs.Written.{written_macroblock, written_slice, written_picture}
use Rattle.picture_laws.proofs.Computing.{said, answers}
use Rattle.picture_laws.proofs.DecidedHeads.{decided-head}
use Rattle.picture_laws.proofs.DecidedUnits.{right-unit}
use Rattle.picture_laws.proofs.ExampleValues.{flat, intra_kind}
use Rattle.picture_laws.proofs.ExampleMacroblocks.{gray}

-- ---- parts: a sequence header of 16 columns and a height below 256, its extension, an I-picture, and one slice

abbrev sequence_header_bytes : ℕ → List ℕ
sequence_header_bytes height = 0x00 ∷ 0x00 ∷ 0x01 ∷ 0xB3 ∷ 0x01 ∷ 0x00 ∷ height ∷ 0x13 ∷ 0x24 ∷ 0x9F ∷ 0x23 ∷ 0x80 ∷ []

abbrev pub sequence_extension_bytes : List ℕ
sequence_extension_bytes = 0x00 ∷ 0x00 ∷ 0x01 ∷ 0xB5 ∷ 0x14 ∷ 0x8A ∷ 0x00 ∷ 0x01 ∷ 0x00 ∷ 0x00 ∷ []

abbrev pub picture_header_bytes : List ℕ
picture_header_bytes = 0x00 ∷ 0x00 ∷ 0x01 ∷ 0x00 ∷ 0x00 ∷ 0x0F ∷ 0xFF ∷ 0xF8 ∷ []

abbrev pub coding_extension_bytes : List ℕ
coding_extension_bytes = 0x00 ∷ 0x00 ∷ 0x01 ∷ 0xB5 ∷ 0x8F ∷ 0xFF ∷ 0xF3 ∷ 0x41 ∷ 0x80 ∷ []

-- one intra macroblock whose blocks are flat
abbrev pub slice_bytes : List ℕ
slice_bytes = 0x00 ∷ 0x00 ∷ 0x01 ∷ 0x01 ∷ 0x0B ∷ 0x94 ∷ 0xA5 ∷ 0x22 ∷ 0x20 ∷ []

abbrev sequence_end_bytes : List ℕ
sequence_end_bytes = 0x00 ∷ 0x00 ∷ 0x01 ∷ 0xB7 ∷ []

abbrev state : ℕ → SeqState
state height = record {
  width = 16;
  height = height;
  rate_code = 3;
  vbv = 112;
  progressive = true;
  intra = default_weights true;
  non_intra = default_weights false;
}

abbrev coding : PicCoding
coding = record {
  kind = 1;
  vbv_delay = 65535;
  f_code = (15 ∷ 15 ∷ []) ∷ (15 ∷ 15 ∷ []) ∷ [];
  dc_precision = 0;
  structure = 3;
  top_field_first = false;
  frame_pred_frame_dct = true;
  concealment = false;
  q_scale_type = false;
  intra_vlc_format = false;
  alternate_scan = false;
  repeat_first_field = false;
  progressive_frame = true;
}

-- ---- a head with each extension that may stand in it, and user data at each place

abbrev display_bytes : List ℕ
display_bytes = 0x00 ∷ 0x00 ∷ 0x01 ∷ 0xB5 ∷ 0x2A ∷ 0x01 ∷ 0x02 ∷ 0x02 ∷ 0x00 ∷ []

abbrev user_bytes : List ℕ
user_bytes = 0x00 ∷ 0x00 ∷ 0x01 ∷ 0xB2 ∷ 0x41 ∷ 0x42 ∷ []

abbrev group_bytes : List ℕ
group_bytes = 0x00 ∷ 0x00 ∷ 0x01 ∷ 0xB8 ∷ 0x00 ∷ 0x08 ∷ 0x00 ∷ 0x40 ∷ []

abbrev quant_matrix_bytes : List ℕ
quant_matrix_bytes = 0x00 ∷ 0x00 ∷ 0x01 ∷ 0xB5 ∷ 0x30 ∷ []

abbrev copyright_bytes : List ℕ
copyright_bytes = 0x00 ∷ 0x00 ∷ 0x01 ∷ 0xB5 ∷ 0x4D ∷ 0x50 ∷ 0x04 ∷ 0x00 ∷ 0x01 ∷ 0x60 ∷ 0x00 ∷ 0x03 ∷ 0x40 ∷ 0x00 ∷ 0x07 ∷ []

abbrev picture_display_bytes : List ℕ
picture_display_bytes = 0x00 ∷ 0x00 ∷ 0x01 ∷ 0xB5 ∷ 0x70 ∷ 0x00 ∷ 0x18 ∷ 0x00 ∷ 0x14 ∷ []

abbrev long_head : List ℕ
long_head =
    sequence_header_bytes 16 ++ sequence_extension_bytes ++ display_bytes ++ user_bytes ++ group_bytes ++ user_bytes
    ++ picture_header_bytes ++ coding_extension_bytes ++ quant_matrix_bytes ++ copyright_bytes ++ picture_display_bytes ++ user_bytes

long_head-spelled : (head None).Spells (state 16, coding) (bit_list (long_head ++ slice_bytes)) (bit_list slice_bytes)
unfolding answers decided-head
long_head-spelled = (said (decided-head None) (bit_list (long_head ++ slice_bytes)) refl).0

-- a scalable extension, which is of another profile, is refused at its identifier; so is one that may not stand behind a sequence header
no_display_behind_picture : (head None).Refuses (bit_list (sequence_header_bytes 16 ++ sequence_extension_bytes ++ picture_header_bytes
    ++ coding_extension_bytes ++ display_bytes)) BadHeader (bit_list (0x2A ∷ 0x01 ∷ 0x02 ∷ 0x02 ∷ 0x00 ∷ []))
unfolding answers decided-head
no_display_behind_picture = said (decided-head None) (bit_list (sequence_header_bytes 16 ++ sequence_extension_bytes ++ picture_header_bytes ++ coding_extension_bytes ++ display_bytes)) refl

mpeg_1 : (head None).Refuses (bit_list (sequence_header_bytes 16 ++ picture_header_bytes)) NotMpeg2 (bit_list picture_header_bytes)
unfolding answers decided-head
mpeg_1 = said (decided-head None) (bit_list (sequence_header_bytes 16 ++ picture_header_bytes)) refl

-- ---- a unit of one macroblock, whole

abbrev head_bytes : ℕ → List ℕ
head_bytes height = sequence_header_bytes height ++ sequence_extension_bytes ++ picture_header_bytes ++ coding_extension_bytes

abbrev unit_bytes : ℕ → List ℕ
unit_bytes height = head_bytes height ++ slice_bytes ++ sequence_end_bytes

abbrev picture : ℕ → Picture
picture height = record {
  seq = state height;
  coding = coding;
  head = head_bytes height;
  slices = record { row = 0; code = 1; info = None; macroblocks = gray ∷ [] } ∷ [];
  sequence_end = true;
}

unit-spelled : SpellsPicture None (picture 16) (unit_bytes 16)
unfolding answers decided-head
unit-spelled = (right-unit None (bit_list (unit_bytes 16)) (AreBits-bit_list (unit_bytes 16)) refl).0

unit-covered : IsCovered (picture 16)
unit-covered = refl

unit-written : bit_list (unit_bytes 16) ≡ written_picture (picture 16)
unfolding answers written_picture written_slice written_macroblock
unit-written = refl

-- zero bytes before a start code and at the end are no part of the picture
unit-with_zeros : SpellsPicture None (picture 16) (head_bytes 16 ++ 0x00 ∷ [] ++ slice_bytes ++ 0x00 ∷ 0x00 ∷ [] ++ sequence_end_bytes ++ 0x00 ∷ [])
unfolding answers decided-head
unit-with_zeros =
    (right-unit None (bit_list (head_bytes 16 ++ 0x00 ∷ [] ++ slice_bytes ++ 0x00 ∷ 0x00 ∷ [] ++ sequence_end_bytes ++ 0x00 ∷ []))
    (AreBits-bit_list (head_bytes 16 ++ 0x00 ∷ [] ++ slice_bytes ++ 0x00 ∷ 0x00 ∷ [] ++ sequence_end_bytes ++ 0x00 ∷ [])) refl).0

-- ---- of 32 rows one macroblock row is missing

unit-uncovered : RefusesPicture None (unit_bytes 32) Uncovered 0
unfolding answers decided-head
unit-uncovered = inr (picture 32, (right-unit None (bit_list (unit_bytes 32)) (AreBits-bit_list (unit_bytes 32)) refl).0, not_covered, refl, refl) where
  not_covered : IsCovered (picture 32) → ⊥
  not_covered c = let d = ap length c in omega arith

-- macroblock rows of 720 by 576 samples: a frame of an interlaced sequence, a field of it, and a progressive frame of 720 by 560
abbrev interlaced : ℕ → SeqState
interlaced height = record (state height) { progressive = false }

frame_rows : rows (interlaced 576) coding ≡ 36
frame_rows = refl

frame_rows-560 : rows (interlaced 560) coding ≡ 36
frame_rows-560 = refl

progressive_rows : rows (state 560) coding ≡ 35
progressive_rows = refl

field_rows-560 : rows (interlaced 560) (record coding { structure = 1 }) ≡ 18
field_rows-560 = refl
