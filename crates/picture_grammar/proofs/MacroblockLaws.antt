-- Macroblocks and slices decide by their bits.
use Rattle.std.proofs.Common.{◌==◌, ℕ, not, List, [], ◌∷◌, Bool, false}
use Rattle.std.specs.List.{range_with_len}
use Rattle.syntax_types.specs.declared.macroblock.TheConstants.{BLOCKS}
use Rattle.syntax_types.specs.declared.macroblock.Kind.{Kind}
use Rattle.syntax_types.specs.declared.macroblock.Macroblock.{Macroblock}
use Rattle.syntax_types.specs.declared.picture.PicCoding.{PicCoding}
use Rattle.syntax_types.specs.declared.picture.SeqState.{SeqState}
use Rattle.picture_grammar.specs.Exact.{IsExact}
use Rattle.picture_grammar.specs.Refusal.Refusal.{BadType}
use Rattle.picture_grammar.specs.Grammar.{when}
use Rattle.picture_grammar.specs.Element.{uimsbf, one_flag, marker_bit, rule}
use Rattle.picture_grammar.specs.Block.{block}
use Rattle.picture_grammar.specs.Motion.{MotionFormat, dmvector, vector_part, motion_vector, motion_vectors}
use Rattle.picture_grammar.specs.Macroblock.{
  address_code,
  address_increment,
  motion_type,
  dct_type,
  quantiser_scale_code,
  has_motion_type,
  usual_motion_type,
  motion_format,
  has_dct_type,
  has_forward,
  has_concealment,
  f_codes,
  is_coded,
  block_way,
  no_block,
  blocks,
  macroblock,
}
use Rattle.picture_grammar.specs.Slice.{extra_information, slice_extension, slice_info, next_macroblock, slice}
use Rattle.picture_grammar.proofs.GrammarLaws.{exact-done, exact-bind, exact-then, exact-optional, exact-when, exact-if_next, exact-repeated, exact-each, exact-one_more, exact-many}
use Rattle.picture_grammar.proofs.ElementLaws.{exact-element}
use Rattle.picture_grammar.proofs.Codes.{free-dmvector, free-type}
use Rattle.picture_grammar.proofs.PictureLaws.{exact-vlclbf, exact-uimsbf, exact-flag_where, exact-block}

-- ---- motion vectors

pub exact-dmvector : IsExact dmvector
exact-dmvector = exact-element _ _ _ free-dmvector

pub exact-vector_part : (f_code : ℕ) (dual : Bool) → IsExact (vector_part f_code dual)
exact-vector_part f_code dual =
    exact-bind _ _ (exact-vlclbf _ _ [])
    (λ size. exact-bind _ _ (exact-when _ _ _ (exact-flag_where []))
    (λ negative. exact-bind _ _ (exact-when _ _ _ (exact-uimsbf _ []))
    (λ residual. exact-bind _ _ (exact-when dual _ _ exact-dmvector)
    (λ difference. exact-done _))))

pub exact-motion_vector : (f_codes : List ℕ) (format : MotionFormat) → IsExact (motion_vector f_codes format)
exact-motion_vector f_codes format =
    exact-bind _ _ (exact-optional format.select _ (exact-flag_where []))
    (λ select. exact-bind _ _ (exact-vector_part _ _)
    (λ horizontal. exact-bind _ _ (exact-vector_part _ _)
    (λ vertical. exact-done _)))

pub exact-motion_vectors : (f_codes : List ℕ) (format : MotionFormat) → IsExact (motion_vectors f_codes format)
exact-motion_vectors f_codes format = exact-repeated format.count _ (exact-motion_vector f_codes format)

-- ---- macroblocks

pub exact-address_increment : (most : ℕ) → IsExact (address_increment most)
exact-address_increment most =
    exact-bind _ _ (exact-many (address_code most) (λ escapes. exact-bind _ _ (exact-vlclbf _ _ _) (λ symbol. exact-done _)))
    (λ codes. exact-done _)

pub exact-quantiser_scale_code : IsExact quantiser_scale_code
exact-quantiser_scale_code = exact-uimsbf 5 _

pub exact-motion_type : (coding : PicCoding) (kind : Kind) → IsExact (motion_type coding kind)
exact-motion_type coding kind =
    exact-when (has_motion_type coding kind) (uimsbf 2 (rule BadType (λ number. not (number == 0)) ∷ [])) (usual_motion_type coding) (exact-uimsbf 2 _)

pub exact-dct_type : (coding : PicCoding) (kind : Kind) → IsExact (dct_type coding kind)
exact-dct_type coding kind = exact-when (has_dct_type coding kind) one_flag false (exact-flag_where [])

pub exact-vectors : (stand : Bool) (f_codes : List ℕ) (format : MotionFormat) → IsExact (when stand (motion_vectors f_codes format) [])
exact-vectors stand f_codes format = exact-when stand (motion_vectors f_codes format) [] (exact-motion_vectors f_codes format)

pub exact-blocks : (coding : PicCoding) (kind : Kind) (pattern : ℕ) → IsExact (blocks coding kind pattern)
exact-blocks coding kind pattern =
    exact-each (range_with_len 0 BLOCKS) (λ i. when (is_coded kind pattern i) (block (block_way coding kind i)) no_block)
    (λ i. exact-when (is_coded kind pattern i) (block (block_way coding kind i)) no_block (exact-block (block_way coding kind i)))

pub exact-macroblock : (coding : PicCoding) (first : Bool) (columns_left : ℕ) → IsExact (macroblock coding first columns_left)
unfolding macroblock
exact-macroblock coding first columns_left =
    exact-bind _ _ (exact-address_increment _)
    (λ increment. exact-bind _ _ (exact-element _ _ _ (free-type _))
    (λ kind. exact-bind _ _ (exact-motion_type coding kind)
    (λ motion_type. exact-bind _ _ (exact-dct_type coding kind)
    (λ field_dct. exact-bind _ _ (exact-optional kind.quant _ exact-quantiser_scale_code)
    (λ code. exact-bind _ _ (exact-vectors (has_forward coding kind) (f_codes coding 0) (motion_format coding motion_type))
    (λ forward. exact-bind _ _ (exact-vectors kind.backward (f_codes coding 1) (motion_format coding motion_type))
    (λ backward. exact-then _ _ (exact-optional (has_concealment coding kind) (marker_bit BadType) (exact-uimsbf 1 _))
    (exact-bind _ _ (exact-when kind.pattern _ _ (exact-vlclbf _ _ []))
    (λ pattern. exact-bind _ _ (exact-blocks coding kind pattern)
    (λ blocks. exact-done _))))))))))

-- ---- slices

pub exact-extra_information : (before : List ℕ) → IsExact (extra_information before)
exact-extra_information before =
    exact-bind _ _ (exact-flag_where []) (λ another. exact-bind _ _ (exact-optional another _ (exact-uimsbf 8 [])) (λ byte. exact-done _))

pub exact-slice_extension : IsExact slice_extension
exact-slice_extension =
    exact-bind _ _ (exact-flag_where [])
    (λ intra_slice. exact-bind _ _ (exact-uimsbf 7 [])
    (λ reserved. exact-bind _ _ (exact-many extra_information exact-extra_information)
    (λ information. exact-done _)))

pub exact-slice_info : IsExact slice_info
exact-slice_info = exact-bind _ _ (exact-flag_where []) (λ extended. exact-optional extended _ exact-slice_extension)

pub exact-next_macroblock : (seq : SeqState) (coding : PicCoding) (before : List Macroblock) → IsExact (next_macroblock seq coding before)
exact-next_macroblock seq coding [] = exact-one_more _ (exact-macroblock _ _ _)
exact-next_macroblock seq coding (m ∷ ms) = exact-if_next _ _ _ (exact-done _) (exact-one_more _ (exact-macroblock _ _ _))

pub exact-slice : (seq : SeqState) (coding : PicCoding) (row : ℕ) → IsExact (slice seq coding row)
unfolding slice
exact-slice seq coding row =
    exact-bind _ _ exact-quantiser_scale_code
    (λ code. exact-bind _ _ exact-slice_info
    (λ info. exact-bind _ _ (exact-many (next_macroblock seq coding) (exact-next_macroblock seq coding))
    (λ macroblocks. exact-done _)))
