-- Worked examples of what is written, computed from the definitions. Whole slices stand beside the laws of the grammar.
use Rattle.std.proofs.Common.{◌≡◌, ◌++◌, pos, negsuc, Some, None, [], ◌∷◌, replicate, true, false, refl}
use Rattle.syntax_types.specs.declared.block.BlockWay.{BlockWay}
use Rattle.syntax_types.specs.declared.macroblock.Macroblock.{Macroblock}
use Rattle.syntax_types.specs.declared.picture.PicCoding.{PicCoding}
use Rattle.prefix_codes.specs.declared.table_name.TableName.TheVariants.{TypeI, TypeP, TypeB, Pattern, CoeffZero, CoeffFirst, CoeffOne}
use Rattle.prefix_codes.specs.Entry.{printed_bits}
use Rattle.picture_grammar.specs.Written.{written_increment, written_coefficient, written_dc, written_vector, written_macroblock}
use Rattle.prefix_codes.specs.TableName.{code_for}
use Rattle.picture_laws.proofs.Computing.{answers}
use Rattle.picture_laws.proofs.ExampleValues.{coded, flat, intra_kind}

-- ---- increments: an escape adds 33, and none stands before the codes from 1 to 33

increment_33 : written_increment 33 ≡ printed_bits "00000011000"
unfolding answers
increment_33 = refl

increment_34 : written_increment 34 ≡ printed_bits "00000001000 1"
unfolding answers
increment_34 = refl

increment_67 : written_increment 67 ≡ printed_bits "00000001000 00000001000 1"
unfolding answers
increment_67 = refl

increment_100 : written_increment 100 ≡ printed_bits "00000001000 00000001000 00000001000 1"
unfolding answers
increment_100 = refl

-- ---- the longest codes of the tables

intra_with_code : code_for TypeI 17 ++ code_for TypeP 17 ++ code_for TypeB 17 ≡ printed_bits "01 000001 000001"
unfolding answers
intra_with_code = refl

pattern_27 : code_for Pattern 27 ≡ printed_bits "000000011"
unfolding answers
pattern_27 = refl

abbrev luma : BlockWay
luma = record { intra = true; luma = true; vlc_one = false }

abbrev chroma : BlockWay
chroma = record { intra = true; luma = false; vlc_one = false }

dc_sizes_11 : written_dc luma (record { size = 11; bits = 1 }) ++ written_dc chroma (record { size = 11; bits = 1 }) ≡ printed_bits "111111111 00000000001 1111111111 00000000001"
unfolding answers
dc_sizes_11 = refl

run_31 : written_coefficient CoeffZero (record { run = 31; level = pos 1 }) ++ written_coefficient CoeffFirst (record { run = 31; level = negsuc 0 })
    ++ written_coefficient CoeffOne (record { run = 31; level = pos 1 }) ≡ printed_bits "00000000000110110 00000000000110111 00000000000110110"
unfolding answers
run_31 = refl

-- ---- escapes

levels_2047 : written_coefficient CoeffZero (record { run = 5; level = pos 2047 }) ++ written_coefficient CoeffOne (record { run = 5; level = negsuc 2046 })
    ≡ printed_bits "000001 000101 011111111111 000001 000101 100000000001"
unfolding answers
levels_2047 = refl

-- ---- vectors: the field select, the horizontal part before the vertical one, each with its sign, its residual by the f_code and its dmvector

-- codes 16 and -1 with f_codes 1 and 3: no residual, and one of two bits
far : written_vector (1 ∷ 3 ∷ []) (record { select = Some true; code = pos 16 ∷ negsuc 0 ∷ []; residual = 0 ∷ 2 ∷ []; dual = None }) ≡ printed_bits "1 00000011000 01 1 10"
unfolding answers
far = refl

-- codes 0 and 2, differences -1 and 1
dual_prime : written_vector (1 ∷ 1 ∷ []) (record { select = None; code = pos 0 ∷ pos 2 ∷ []; residual = 0 ∷ 0 ∷ []; dual = Some (negsuc 0 ∷ pos 1 ∷ []) }) ≡ printed_bits "1 11 001 0 10"
unfolding answers
dual_prime = refl

-- ---- a concealment vector, with the marker bit behind it

abbrev concealed : PicCoding
concealed = record (coded 1 3 true) { concealment = true }

abbrev intra : Macroblock
intra = record {
  skipped_before = 0;
  kind = intra_kind;
  motion_type = 2;
  field_dct = false;
  code = None;
  forward = record { items = record { select = None; code = pos 0 ∷ pos 1 ∷ []; residual = 0 ∷ 0 ∷ []; dual = None } ∷ [] };
  backward = record { items = [] };
  pattern = 0;
  blocks = replicate 6 flat;
}

-- increment, intra, the two codes, the marker, six blocks of DC size 0
with_marker : written_macroblock concealed intra ≡ printed_bits "1 1 1 010 1 10010 10010 10010 10010 0010 0010"
unfolding answers written_macroblock
with_marker = refl
