-- Each part of a picture, up to slices, decides all bits.
use Rattle.std.proofs.Common.{◌==◌, ℕ, not, List, [], ◌∷◌, Bool, false}
use Rattle.std.specs.List.{range_with_len}
use Rattle.syntax_types.specs.declared.block.BlockWay.{BlockWay}
use Rattle.syntax_types.specs.declared.block.RunLevel.{RunLevel}
use Rattle.syntax_types.specs.declared.macroblock.TheConstants.{BLOCKS}
use Rattle.syntax_types.specs.declared.macroblock.Kind.{Kind}
use Rattle.syntax_types.specs.declared.macroblock.Macroblock.{Macroblock}
use Rattle.syntax_types.specs.declared.picture.PicCoding.{PicCoding}
use Rattle.syntax_types.specs.declared.picture.SeqState.{SeqState}
use Rattle.picture_grammar.specs.Refusal.Refusal.{BadType}
use Rattle.picture_grammar.specs.Grammar.{when}
use Rattle.picture_grammar.specs.Grammar.Next.{last}
use Rattle.picture_grammar.specs.Element.{uimsbf, one_flag, marker_bit, rule}
use Rattle.picture_grammar.specs.Block.{Coefficient, dc_coefficient, after_code, coefficient, block}
use Rattle.picture_grammar.specs.Block.Coefficient.{end_of_block, run_size, escape}
use Rattle.picture_grammar.specs.Motion.{MotionFormat, vector_part, motion_vector, motion_vectors}
use Rattle.picture_grammar.specs.Macroblock.{
  address_code,
  address_increment,
  motion_type,
  dct_type,
  quantiser_scale_code,
  has_motion_type,
  usual_motion_type,
  motion_format,
  has_dct_type,
  has_forward,
  has_concealment,
  f_codes,
  is_coded,
  block_way,
  no_block,
  blocks,
  macroblock,
}
use Rattle.picture_grammar.specs.Slice.{ClosesSlice, extra_information, slice_extension, slice_info, next_macroblock, slice}
use Rattle.picture_laws.proofs.Answers.{IsDecided}
use Rattle.picture_laws.proofs.Decided.{decided-done, decided-bind, decided-then, decided-optional, decided-when, decided-if_next, decided-repeated, decided-each, decided-one_more, decided-many}
use Rattle.picture_laws.proofs.DecidedElements.{decided-vlclbf, decided-uimsbf, decided-flag_where, decided-dmvector, decided-type}
use Rattle.picture_laws.proofs.DecidedCoefficients.{decided-coefficient_code}
use Rattle.picture_laws.proofs.Takes.{takes-coefficient, takes-address_code, takes-extra_information, takes-next_macroblock}
use Rattle.picture_laws.proofs.Tested.{tested-closes}

-- ---- blocks

abbrev pub decided-after_code : (c : Coefficient) → IsDecided (after_code c)
decided-after_code end_of_block = decided-done (last tt)
decided-after_code (run_size run size) = decided-bind one_flag _ (decided-flag_where []) (λ negative. decided-done _)
decided-after_code (escape run level) = decided-done _

abbrev pub decided-coefficient : (way : BlockWay) (before : List RunLevel) → IsDecided (coefficient way before)
decided-coefficient way before = decided-bind _ after_code (decided-coefficient_code _ _ _) decided-after_code

abbrev pub decided-dc : (way : BlockWay) → IsDecided (dc_coefficient way)
decided-dc way = decided-bind _ _ (decided-vlclbf _ _ []) (λ size. decided-bind _ _ (decided-uimsbf size []) (λ bits. decided-done _))

unfoldable pub decided-block : (way : BlockWay) → IsDecided (block way)
unfolding block
decided-block way =
    decided-bind _ _ (decided-optional way.intra (dc_coefficient way) (decided-dc way))
    (λ dc. decided-bind _ _ (decided-many (coefficient way) (decided-coefficient way) (takes-coefficient way)) (λ coefficients. decided-done _))

-- ---- motion vectors

abbrev pub decided-vector_part : (f_code : ℕ) (dual : Bool) → IsDecided (vector_part f_code dual)
decided-vector_part f_code dual =
    decided-bind _ _ (decided-vlclbf _ _ [])
    (λ size. decided-bind _ _ (decided-when _ _ _ (decided-flag_where []))
    (λ negative. decided-bind _ _ (decided-when _ _ _ (decided-uimsbf _ []))
    (λ residual. decided-bind _ _ (decided-when dual _ _ decided-dmvector)
    (λ difference. decided-done _))))

abbrev pub decided-motion_vector : (f_codes : List ℕ) (format : MotionFormat) → IsDecided (motion_vector f_codes format)
decided-motion_vector f_codes format =
    decided-bind _ _ (decided-optional format.select _ (decided-flag_where []))
    (λ select. decided-bind _ _ (decided-vector_part _ _)
    (λ horizontal. decided-bind _ _ (decided-vector_part _ _)
    (λ vertical. decided-done _)))

abbrev pub decided-motion_vectors : (f_codes : List ℕ) (format : MotionFormat) → IsDecided (motion_vectors f_codes format)
decided-motion_vectors f_codes format = decided-repeated format.count _ (decided-motion_vector f_codes format)

-- ---- macroblocks

abbrev pub decided-address_increment : (most : ℕ) → IsDecided (address_increment most)
decided-address_increment most =
    decided-bind _ _ (decided-many (address_code most) (λ escapes. decided-bind _ _ (decided-vlclbf _ _ _) (λ symbol. decided-done _)) (takes-address_code most))
    (λ codes. decided-done _)

abbrev pub decided-quantiser_scale_code : IsDecided quantiser_scale_code
decided-quantiser_scale_code = decided-uimsbf 5 _

abbrev pub decided-motion_type : (coding : PicCoding) (kind : Kind) → IsDecided (motion_type coding kind)
decided-motion_type coding kind =
    decided-when (has_motion_type coding kind) (uimsbf 2 (rule BadType (λ number. not (number == 0)) ∷ [])) (usual_motion_type coding) (decided-uimsbf 2 _)

abbrev pub decided-dct_type : (coding : PicCoding) (kind : Kind) → IsDecided (dct_type coding kind)
decided-dct_type coding kind = decided-when (has_dct_type coding kind) one_flag false (decided-flag_where [])

abbrev pub decided-vectors : (stand : Bool) (f_codes : List ℕ) (format : MotionFormat) → IsDecided (when stand (motion_vectors f_codes format) [])
decided-vectors stand f_codes format = decided-when stand (motion_vectors f_codes format) [] (decided-motion_vectors f_codes format)

abbrev pub decided-blocks : (coding : PicCoding) (kind : Kind) (pattern : ℕ) → IsDecided (blocks coding kind pattern)
decided-blocks coding kind pattern =
    decided-each (range_with_len 0 BLOCKS) (λ i. when (is_coded kind pattern i) (block (block_way coding kind i)) no_block)
    (λ i. decided-when (is_coded kind pattern i) (block (block_way coding kind i)) no_block (decided-block (block_way coding kind i)))

unfoldable pub decided-macroblock : (coding : PicCoding) (first : Bool) (columns_left : ℕ) → IsDecided (macroblock coding first columns_left)
unfolding macroblock
decided-macroblock coding first columns_left =
    decided-bind _ _ (decided-address_increment _)
    (λ increment. decided-bind _ _ (decided-type _ _)
    (λ kind. decided-bind _ _ (decided-motion_type coding kind)
    (λ motion_type. decided-bind _ _ (decided-dct_type coding kind)
    (λ field_dct. decided-bind _ _ (decided-optional kind.quant _ decided-quantiser_scale_code)
    (λ code. decided-bind _ _ (decided-vectors (has_forward coding kind) (f_codes coding 0) (motion_format coding motion_type))
    (λ forward. decided-bind _ _ (decided-vectors kind.backward (f_codes coding 1) (motion_format coding motion_type))
    (λ backward. decided-then _ _ (decided-optional (has_concealment coding kind) (marker_bit BadType) (decided-uimsbf 1 _))
    (decided-bind _ _ (decided-when kind.pattern _ _ (decided-vlclbf _ _ []))
    (λ pattern. decided-bind _ _ (decided-blocks coding kind pattern)
    (λ blocks. decided-done _))))))))))

-- ---- slices

abbrev pub decided-extra_information : (before : List ℕ) → IsDecided (extra_information before)
decided-extra_information before =
    decided-bind _ _ (decided-flag_where []) (λ another. decided-bind _ _ (decided-optional another _ (decided-uimsbf 8 [])) (λ byte. decided-done _))

abbrev pub decided-slice_extension : IsDecided slice_extension
decided-slice_extension =
    decided-bind _ _ (decided-flag_where [])
    (λ intra_slice. decided-bind _ _ (decided-uimsbf 7 [])
    (λ reserved. decided-bind _ _ (decided-many extra_information decided-extra_information takes-extra_information)
    (λ information. decided-done _)))

abbrev pub decided-slice_info : IsDecided slice_info
decided-slice_info = decided-bind _ _ (decided-flag_where []) (λ extended. decided-optional extended _ decided-slice_extension)

abbrev pub decided-next_macroblock : (seq : SeqState) (coding : PicCoding) (before : List Macroblock) → IsDecided (next_macroblock seq coding before)
decided-next_macroblock seq coding [] = decided-one_more _ (decided-macroblock _ _ _)
decided-next_macroblock seq coding (m ∷ ms) = decided-if_next ClosesSlice _ _ tested-closes (decided-done _) (decided-one_more _ (decided-macroblock _ _ _))

unfoldable pub decided-slice : (seq : SeqState) (coding : PicCoding) (row : ℕ) → IsDecided (slice seq coding row)
unfolding slice
decided-slice seq coding row =
    decided-bind _ _ decided-quantiser_scale_code
    (λ code. decided-bind _ _ decided-slice_info
    (λ info. decided-bind _ _ (decided-many (next_macroblock seq coding) (decided-next_macroblock seq coding) (takes-next_macroblock seq coding))
    (λ macroblocks. decided-done _)))
